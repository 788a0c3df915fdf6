use Rattle.std.proofs.Common.{◌≡◌, List, ◌∷◌, map, length}
use Rattle.sf_ast.specs.View.{item_of}
use Rattle.sf_parse.specs.Checked.Machine as m
use Rattle.sf_parse.specs.Checked.Machine.{Predicted, verdict}
use Rattle.sf_parse.specs.Nearest.{IsNearest}
use Rattle.sf_parse.specs.Nesting.{ItemsWithin}
use Rattle.sf_parse.specs.Leaf.{leaves}
use Rattle.sf_parse.specs.Grammar as g
use Rattle.sf_parse.proofs.item.items.Given as goal

abbrev pub invariant-loop-rest : goal.invariant-loop-rest
invariant-loop-rest l = record {
  spelled : leaves l.tokens ≡ g.items (map item_of l.found.items) (leaves l.rest);
  within : ItemsWithin (map item_of l.found.items) 0 (leaves l.rest);
  nearest : IsNearest (map item_of l.found.items);
  taken : (st : List Predicted) → verdict 0 (leaves l.tokens) (m.items ∷ st) ≡ verdict 0 (leaves l.rest) (m.items ∷ st);
}

abbrev pub decreases-loop-rest : goal.decreases-loop-rest
decreases-loop-rest l = length l.rest
