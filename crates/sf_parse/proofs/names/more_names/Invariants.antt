use Rattle.std.proofs.Common.{◌≡◌, List, ◌∷◌, length}
use Rattle.sf_parse.specs.Grammar.{more_names}
use Rattle.sf_parse.specs.Checked.Machine as m
use Rattle.sf_parse.specs.Checked.Machine.{Predicted, verdict}
use Rattle.sf_parse.specs.Leaf.{leaves}
use Rattle.sf_parse.proofs.names.more_names.Given as goal

abbrev pub invariant-loop-after : goal.invariant-loop-after
invariant-loop-after l = record {
  spelled : leaves l.tokens ≡ more_names l.found.items (leaves l.rest);
  taken : (st : List Predicted) → verdict 0 (leaves l.tokens) (m.more_names ∷ st) ≡ verdict 0 (leaves l.rest) (m.more_names ∷ st);
}

abbrev pub decreases-loop-after : goal.decreases-loop-after
decreases-loop-after l = length l.rest
