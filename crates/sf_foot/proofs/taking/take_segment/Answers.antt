use Rattle.std.proofs.Common.{◌∙◌, sym}
use Rattle.std.proofs.lemmas.Result.{IfOk-weaker}
use Rattle.sf_core.specs.Assertions.Sat.{value}
use Rattle.sf_foot.specs.Variables.{value_of}
use Rattle.sf_foot.proofs.Knowing.{told-known}
use Rattle.sf_foot.proofs.Ready.{somewhere}
use Rattle.sf_foot.proofs.Takings.{takes-segment}
use Rattle.sf_foot.proofs.taking.take_segment.Goals as goal

-- both ends are known
pub returns-in_default-clause-no : goal.returns-in_default-clause-no
returns-in_default-clause-no c = absurd (told-known (value (value_of c.args.vars.now)) c.args.known.now
    c.args.from (c.requires somewhere).next.0 (sym c.value.ensures ∙ c.in_default.is))

pub returns-in_default-value-clause-no : goal.returns-in_default-value-clause-no
returns-in_default-value-clause-no c = absurd (told-known (value (value_of c.args.vars.now)) c.args.known.now
    c.args.to (c.requires somewhere).next.1 (sym c.value-2.ensures ∙ c.in_default-value.is))

-- the walk is what is taken
pub returns-clause-yes : goal.returns-clause-yes
returns-clause-yes c = IfOk-weaker c.walk_segment.result _ _
    (λ b f i p. takes-segment c.args.heap.now (value (value_of c.args.vars.now)) p c.args.next c.args.from c.args.to
    c.in-Some.first c.in-Some-value.end c.args.known.now _ _ (sym c.value.ensures ∙ c.in-Some.is)
    (sym c.value-2.ensures ∙ c.in-Some-value.is) (f i))
    c.walk_segment.ensures.yes
