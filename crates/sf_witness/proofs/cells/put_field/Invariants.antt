use Rattle.std.proofs.Common.{◌≡◌, ◌-◌, ◌+◌, length}
use Rattle.sf_heap.specs.Cells.{cell_of}
use Rattle.sf_witness.proofs.cells.put_field.Given as goal

abbrev pub invariant-loop-values : goal.invariant-loop-values
invariant-loop-values l = cell_of l.values.items ≡ cell_of l.initial.values.items

abbrev pub decreases-loop-values : goal.decreases-loop-values
decreases-loop-values l = l.at + 1 - length l.values.items
