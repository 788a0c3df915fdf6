use Rattle.sf_heap.specs.Checked.Moves.{Parting}
use Rattle.sf_heap.specs.Checked.Trees.{entries_of}
use Rattle.sf_heap.proofs.moves.parted.Given as goal

-- the first locations have been moved
abbrev pub invariant-loop-l : goal.invariant-loop-l
invariant-loop-l l = Parting (entries_of l.fn.cells) l.at l.l-index (entries_of l.part) (entries_of l.rest)
