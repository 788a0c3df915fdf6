use Rattle.std.proofs.Common.{◌≡◌, cond, None, take}
use Rattle.sf_base.specs.HeapStore.{Slot}
use Rattle.sf_frame.specs.Stores.{is_among, store_of}
use Rattle.sf_frame.proofs.store.Store.copy_of.Given as goal

-- so many are copied
abbrev pub invariant-loop-spot : goal.invariant-loop-spot
invariant-loop-spot l = (slot : Slot) → store_of l.part slot
    ≡ cond (is_among (take l.spot-index l.slots) slot) (store_of l.self slot) None
