use Rattle.std.proofs.Common.{◌≡◌, List, ◌∷◌, length}
use Rattle.sf_parse.specs.Grammar.{more_fields}
use Rattle.sf_parse.specs.Checked.Machine as m
use Rattle.sf_parse.specs.Checked.Machine.{Predicted, verdict}
use Rattle.sf_parse.specs.Leaf.{leaves}
use Rattle.sf_parse.proofs.fields.more_fields.Given as goal

abbrev pub invariant-loop-after : goal.invariant-loop-after
invariant-loop-after l = record {
  spelled : leaves l.tokens ≡ more_fields l.found.items (leaves l.rest);
  taken : (st : List Predicted) → verdict 0 (leaves l.tokens) (m.more_fields ∷ st) ≡ verdict 0 (leaves l.rest) (m.more_fields ∷ st);
}

abbrev pub decreases-loop-after : goal.decreases-loop-after
decreases-loop-after l = length l.rest
