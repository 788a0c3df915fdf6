use Rattle.std.proofs.Common.{◌≡◌, ◌∷◌, Bool, List, length}
use Rattle.sf_parse.specs.Checked.Given.{all_names}
use Rattle.sf_parse.specs.Grammar.{more_exprs}
use Rattle.sf_parse.specs.Checked.Machine as m
use Rattle.sf_parse.specs.Checked.Machine.{Predicted, verdict}
use Rattle.sf_parse.specs.Leaf.{leaves}
use Rattle.sf_parse.proofs.call.more_expressions.Given as goal

abbrev pub invariant-loop-after : goal.invariant-loop-after
invariant-loop-after l = record {
  spelled : leaves l.tokens ≡ more_exprs l.found.items (leaves l.rest);
  taken : (st : List Predicted) → verdict 0 (leaves l.tokens) (m.more_expressions ∷ st) ≡ verdict 0 (leaves l.rest) (m.more_expressions ∷ st);
  taken_rest : (b : Bool) (st : List Predicted) → verdict 0 (leaves l.tokens) (m.rest b ∷ st) ≡ verdict 0 (leaves l.rest) (m.rest (all_names b l.found.items) ∷ st);
}

abbrev pub decreases-loop-after : goal.decreases-loop-after
decreases-loop-after l = length l.rest
