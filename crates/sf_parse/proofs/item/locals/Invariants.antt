use Rattle.std.proofs.Common.{◌≡◌, List, ◌∷◌, map, length}
use Rattle.sf_ast.specs.View.{names_of}
use Rattle.sf_parse.specs.Grammar as g
use Rattle.sf_parse.specs.Checked.Machine as m
use Rattle.sf_parse.specs.Checked.Machine.{Predicted, verdict}
use Rattle.sf_parse.specs.Leaf.{leaves}
use Rattle.sf_parse.proofs.item.locals.Given as goal

abbrev pub invariant-loop-after : goal.invariant-loop-after
invariant-loop-after l = record {
  spelled : leaves l.tokens ≡ g.locals (map names_of l.found.items) (leaves l.rest);
  taken : (st : List Predicted) → verdict 0 (leaves l.tokens) (m.locals ∷ st) ≡ verdict 0 (leaves l.rest) (m.locals ∷ st);
}

abbrev pub decreases-loop-after : goal.decreases-loop-after
decreases-loop-after l = length l.rest
