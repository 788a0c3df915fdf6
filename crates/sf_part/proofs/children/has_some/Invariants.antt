use Rattle.std.proofs.Common.{◌≡◌, true, false, is_some, take}
use Rattle.sf_base.specs.HeapStore.{Slot}
use Rattle.sf_frame.specs.Stores.{is_among, store_of}
use Rattle.sf_part.proofs.children.has_some.Given as goal

-- none of those so far is there
abbrev pub invariant-loop-spot : goal.invariant-loop-spot
invariant-loop-spot l = (slot : Slot) → is_among (take l.spot-index l.spots) slot ≡ true
    → is_some (store_of l.store slot) ≡ false
