-- The store of the code as the store of the definitions, and two stores as one.
-- Ordinary: the map that it keeps; maps of which one is tried first.
use Rattle.std.specs.Prelude.{Bool, List}
use Rattle.std.specs.List.{list_any}
use Rattle.std.specs.Option.{option_or}
use Rattle.sf_base.specs.HeapStore.{Slot, Store, same_slot}
use Rattle.sf_frame.specs.declared.spot.Spot.{Spot}
use Rattle.sf_frame.specs.declared.store.Store.{Store as CodeStore}
use Rattle.sf_frame.specs.Spots.{slot_of, store_by}

-- the store
abbrev pub store_of : CodeStore → Store
store_of s = store_by s.values

-- two stores together: a slot that the first one lacks has what the other one has in it
abbrev pub together : Store → Store → Store
together one other slot = option_or (one slot) (other slot)

-- whether the slot is one of those
abbrev pub is_among : List Spot → Slot → Bool
is_among spots slot = list_any (λ s. same_slot slot (slot_of s)) spots
