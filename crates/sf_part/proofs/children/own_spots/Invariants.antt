use Rattle.std.proofs.Common.{◌≡◌, ◌↔◌, true}
use Rattle.sf_base.specs.HeapStore.{Slot}
use Rattle.sf_frame.specs.Frames.{frame_of}
use Rattle.sf_frame.specs.Stores.{is_among}
use Rattle.sf_part.specs.Checked.Children.{IsOwnSlot}
use Rattle.sf_part.proofs.children.own_spots.Given as goal

-- those of so many variables so far
abbrev pub invariant-loop-i : goal.invariant-loop-i
invariant-loop-i l = (slot : Slot) → (is_among l.spots.items slot ≡ true)
    ↔ IsOwnSlot (frame_of l.frame) l.i slot
