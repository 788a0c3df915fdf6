-- The slots of the code as those of the definitions, and a map from them as a store.
-- Ordinary: a finite map in order of its keys as a partial map.
use Rattle.std.specs.declared.cmp.Ordering.{Ordering}
use Rattle.std.specs.BTreeMap.{BTreeMap, get}
use Rattle.sf_base.specs.declared.value.Value.{Value}
use Rattle.sf_base.specs.HeapStore.{Slot, shared, own, Store}
use Rattle.sf_frame.specs.declared.spot.Spot.{Spot}
use Rattle.sf_frame.specs.declared.spot.Spot.TheVariants.{Shared, Own}
use Rattle.sf_frame.specs.contracts.spot.SpotOrd.TheImpl as spot_ord

-- the slot
abbrev pub slot_of : Spot → Slot
slot_of (Shared r i) = shared r i
slot_of (Own e i) = own e i

-- the slot of the code that is that one
abbrev pub spot_of : Slot → Spot
spot_of (shared r i) = Shared r i
spot_of (own e i) = Own e i

-- their order
abbrev pub spots : Spot → Spot → Ordering
spots = (spot_ord.ghosts).cmp

-- the store that a map is
abbrev pub store_by : BTreeMap Spot Value → Store
store_by m slot = get spots m (spot_of slot)
