use Rattle.std.proofs.Common.{◌≡◌, map, take}
use Rattle.sf_sym.specs.Goal.{items_of}
use Rattle.sf_sym.proofs.copy.copy_items.Given as goal

abbrev pub invariant-loop-item : goal.invariant-loop-item
invariant-loop-item l = map items_of l.copies.items ≡ map items_of (take l.item-index l.todo)
