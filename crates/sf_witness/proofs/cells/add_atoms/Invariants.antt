use Rattle.std.proofs.Common.{◌≡◌, length}
use Rattle.sf_heap.specs.Cells.{heap_of}
use Rattle.sf_witness.specs.WitnessState.{beside, heap_of_atoms}
use Rattle.sf_witness.proofs.cells.add_atoms.Given as goal

abbrev pub invariant-loop-first : goal.invariant-loop-first
invariant-loop-first l =
    beside (heap_of l.heap) (heap_of_atoms l.links l.left)
    ≡ beside (heap_of l.initial.heap) (heap_of_atoms l.links l.atoms)

abbrev pub decreases-loop-first : goal.decreases-loop-first
decreases-loop-first l = length l.left
