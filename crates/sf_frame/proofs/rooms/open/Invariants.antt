use Rattle.std.proofs.Common.{◌≡◌, ◌-◌, cond, get_or, Some}
use Rattle.sf_base.specs.declared.value.Value.TheVariants.{Nil as nil}
use Rattle.sf_base.specs.HeapStore.{Slot}
use Rattle.sf_core.specs.Machine.Config.{in_room}
use Rattle.sf_core.specs.Machine.Step.{index_of}
use Rattle.sf_frame.specs.Stores.{store_of}
use Rattle.sf_frame.specs.Checked.Frames.{first_slots}
use Rattle.sf_frame.proofs.rooms.open.Given as goal

-- so many slots have come up
abbrev pub invariant-loop-i : goal.invariant-loop-i
invariant-loop-i l = (slot : Slot) → store_of l.store slot
    ≡ cond (in_room (first_slots l.room.event l.room.first l.i) slot)
    (Some (get_or l.values (index_of slot - l.room.first) nil)) (store_of l.initial.store slot)
