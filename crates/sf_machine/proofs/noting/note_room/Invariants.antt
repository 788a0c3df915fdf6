use Rattle.sf_core.specs.Machine.Enabled.{IsInRoom}
use Rattle.sf_machine.specs.Checked.Noting.{Notes}
use Rattle.sf_frame.specs.Checked.Frames.{first_slots}
use Rattle.sf_machine.proofs.noting.note_room.Given as goal

-- the first slots are noted
abbrev pub invariant-loop-i : goal.invariant-loop-i
invariant-loop-i l =
    Notes l.initial.things.items l.things.items (IsInRoom (first_slots l.room.event l.room.first l.i))
