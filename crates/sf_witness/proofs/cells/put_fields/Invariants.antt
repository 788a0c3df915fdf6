use Rattle.std.proofs.Common.{◌≡◌, length}
use Rattle.sf_heap.specs.Cells.{cell_of}
use Rattle.sf_witness.specs.WitnessState.{with_fields}
use Rattle.sf_witness.proofs.cells.put_fields.Given as goal

abbrev pub invariant-loop-first : goal.invariant-loop-first
invariant-loop-first l =
    with_fields l.left (cell_of l.values.items) ≡ with_fields l.fields (cell_of l.initial.values.items)

abbrev pub decreases-loop-first : goal.decreases-loop-first
decreases-loop-first l = length l.left
