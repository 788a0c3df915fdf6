use Rattle.std.proofs.Common.{◌∙◌, sym}
use Rattle.std.proofs.lemmas.Result.{IfOk-weaker}
use Rattle.sf_core.specs.Assertions.Sat.{value}
use Rattle.sf_foot.specs.Variables.{value_of}
use Rattle.sf_foot.proofs.Knowing.{told-known}
use Rattle.sf_foot.proofs.Ready.{somewhere}
use Rattle.sf_foot.proofs.Takings.{takes-tree}
use Rattle.sf_foot.proofs.taking.take_tree.Goals as goal

-- the root is known
pub returns-in_default-clause-no : goal.returns-in_default-clause-no
returns-in_default-clause-no c = absurd (told-known (value (value_of c.args.vars.now)) c.args.known.now
    c.args.root (c.requires somewhere).next (sym c.value.ensures ∙ c.in_default.is))

-- the walk is what is taken
pub returns-clause-yes : goal.returns-clause-yes
returns-clause-yes c = IfOk-weaker c.walk_tree.result _ _
    (λ b f i p. takes-tree c.args.heap.now (value (value_of c.args.vars.now)) p c.args.left c.args.right c.args.root
    c.in-Some.root c.args.known.now _ _ (sym c.value.ensures ∙ c.in-Some.is) (f i))
    c.walk_tree.ensures.yes
