use Rattle.std.proofs.Common.{◌≡◌, ◌↔◌, ◌⊎◌, true, take}
use Rattle.sf_base.specs.HeapStore.{Slot}
use Rattle.sf_frame.specs.Frames.{frame_of}
use Rattle.sf_frame.specs.Stores.{is_among}
use Rattle.sf_part.specs.Checked.Children.{IsSlotOf}
use Rattle.sf_part.proofs.children.add_spots.Given as goal

-- those of the first variables so far, behind what was there
abbrev pub invariant-loop-x : goal.invariant-loop-x
invariant-loop-x l = (slot : Slot) → (is_among l.spots.items slot ≡ true)
    ↔ (is_among l.fn.spots.items slot ≡ true)
    ⊎ IsSlotOf (frame_of l.frame) (take l.x-index l.xs) slot
