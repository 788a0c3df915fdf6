use Rattle.std.proofs.Common.{ap, sym}
use Rattle.std.specs.Option.{option_map}
use Rattle.sf_heap.specs.Cells.{cell_of, heap_of}
use Rattle.sf_witness.proofs.Equations.{nothing-consistent, there-decides}
use Rattle.sf_witness.proofs.meeting.meet_at.Goals as goal

pub meet_cell-requires : goal.meet_cell-requires
meet_cell-requires c = nothing-consistent c.args.bindings.now

pub returns : goal.returns
returns c =
    there-decides c.args.bindings.now c.args.root.now c.args.fields.now (heap_of c.args.heap.now) c.args.location _ _
    (ap (option_map cell_of) (sym c.in-Some.ensures)) c.in_ok-is_so.ensures
