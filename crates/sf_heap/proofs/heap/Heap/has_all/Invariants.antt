use Rattle.std.proofs.Common.{All, take}
use Rattle.sf_heap.specs.Cells.{HasCell}
use Rattle.sf_heap.proofs.heap.Heap.has_all.Given as goal

-- each location so far has a cell
abbrev pub invariant-loop-l : goal.invariant-loop-l
invariant-loop-l l = All (HasCell l.self) (take l.l-index l.l-items)
