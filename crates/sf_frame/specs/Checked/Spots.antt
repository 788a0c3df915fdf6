-- That the indices of the slots of a store fit 32 bits.
-- Ordinary: a bound on the keys of a finite map.
use Rattle.std.specs.Prelude.{◌≡◌, ℕ, ◌<◌, ◌^◌, true, is_some}
use Rattle.std.specs.BTreeMap.{BTreeMap, get}
use Rattle.std.specs.Coded.{Π_prop, →_prop, le_prop}
use Rattle.sf_base.specs.declared.value.Value.{Value}
use Rattle.sf_base.specs.HeapStore.{Slot, shared, own}
use Rattle.sf_frame.specs.declared.spot.Spot.{Spot}
use Rattle.sf_frame.specs.declared.spot.Spot.TheVariants.{Own}
use Rattle.sf_frame.specs.Spots.{spots}

-- the index of a slot that an event made fits 32 bits
abbrev pub SlotFits : Slot → Type 0
SlotFits (shared r i) = Unit {0}
SlotFits (own e i) = i < 2 ^ 32

-- so do those of all keys
abbrev pub KeysFit : BTreeMap Spot Value → Type 0
KeysFit m = (e : ℕ) (i : ℕ) → is_some (get spots m (Own e i)) ≡ true → i < 2 ^ 32

-- that they do holds in one way
pub KeysFit-prop : (m : BTreeMap Spot Value) → IsProp (KeysFit m)
KeysFit-prop m = Π_prop (λ e. Π_prop (λ i. →_prop le_prop))
