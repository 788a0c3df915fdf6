use Rattle.std.proofs.Common.{length}
use Rattle.sf_heap.specs.Cells.{heap_of}
use Rattle.sf_witness.specs.Checked.Meeting.{IsAmong}
use Rattle.sf_witness.proofs.meeting.has_cell.Given as goal

abbrev pub invariant-loop-first : goal.invariant-loop-first
invariant-loop-first l = IsAmong l.bindings l.root l.fields (heap_of l.heap) l.initial.left
    → IsAmong l.bindings l.root l.fields (heap_of l.heap) l.left

abbrev pub decreases-loop-first : goal.decreases-loop-first
decreases-loop-first l = length l.left
