use Rattle.std.proofs.Common.{◌∙◌, sym}
use Rattle.std.proofs.lemmas.Result.{IfOk-weaker}
use Rattle.sf_core.specs.Assertions.Sat.{value}
use Rattle.sf_foot.specs.Variables.{value_of}
use Rattle.sf_foot.proofs.Knowing.{told-known}
use Rattle.sf_foot.proofs.Ready.{somewhere}
use Rattle.sf_foot.proofs.Takings.{overflows-double, takes-double}
use Rattle.sf_foot.proofs.taking.take_double.Goals as goal

-- all four are known
pub returns-in_default-clause-no : goal.returns-in_default-clause-no
returns-in_default-clause-no c = absurd (told-known (value (value_of c.args.vars.now)) c.args.known.now
    c.args.ends.0 (c.requires somewhere).next.0 (sym c.value.ensures ∙ c.in_default.is))

pub returns-in_default-value-clause-no : goal.returns-in_default-value-clause-no
returns-in_default-value-clause-no c = absurd (told-known (value (value_of c.args.vars.now)) c.args.known.now
    c.args.ends.1 (c.requires somewhere).next.1 (sym c.value-2.ensures ∙ c.in_default-value.is))

pub returns-in_default-value-2-clause-no : goal.returns-in_default-value-2-clause-no
returns-in_default-value-2-clause-no c = absurd (told-known (value (value_of c.args.vars.now)) c.args.known.now
    c.args.ends.2 (c.requires somewhere).next.2 (sym c.value-3.ensures ∙ c.in_default-value-2.is))

pub returns-in_default-value-3-clause-no : goal.returns-in_default-value-3-clause-no
returns-in_default-value-3-clause-no c = absurd (told-known (value (value_of c.args.vars.now)) c.args.known.now
    c.args.ends.3 (c.requires somewhere).next.3 (sym c.value-4.ensures ∙ c.in_default-value-3.is))

-- the walk is what is taken
pub returns-clause-yes : goal.returns-clause-yes
returns-clause-yes c = IfOk-weaker c.walk_double.result _ _
    (λ b f i p. takes-double c.args.heap.now (value (value_of c.args.vars.now)) p c.args.next c.args.back
    c.args.ends.0 c.args.ends.1 c.args.ends.2 c.args.ends.3 c.in-Some.from c.in-Some-value.before
    c.in-Some-value-2.last c.in-Some-value-3.to c.args.known.now _ _ (sym c.value.ensures ∙ c.in-Some.is)
    (sym c.value-2.ensures ∙ c.in-Some-value.is) (sym c.value-3.ensures ∙ c.in-Some-value-2.is)
    (sym c.value-4.ensures ∙ c.in-Some-value-3.is) (f i))
    c.walk_double.ensures.yes

-- where it doesn't end there is none
pub returns-clause-no : goal.returns-clause-no
returns-clause-no c = IfOk-weaker c.walk_double.result _ _
    (λ b f i p. overflows-double c.args.heap.now (value (value_of c.args.vars.now)) p c.args.next c.args.back
    c.args.ends.0 c.args.ends.1 c.args.ends.2 c.args.ends.3 c.in-Some.from c.in-Some-value.before
    c.in-Some-value-2.last c.in-Some-value-3.to c.args.known.now _ (sym c.value.ensures ∙ c.in-Some.is)
    (sym c.value-2.ensures ∙ c.in-Some-value.is) (sym c.value-3.ensures ∙ c.in-Some-value-2.is)
    (sym c.value-4.ensures ∙ c.in-Some-value-3.is) (f i))
    c.walk_double.ensures.no
