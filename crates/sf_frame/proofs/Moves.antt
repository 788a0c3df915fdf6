-- Slots that move between stores, in the order of their maps.
-- Names: `key_LAW` speaks of a key that is there, `moved_LAW` of slots that moved.
use Rattle.std.specs.Prelude.{◌≡◌, Bool, true, false, cond, is_some, List, ◌∷◌, Option, Some, None}
use Rattle.std.specs.BTreeMap.{BTreeMap, get, is_at}
use Rattle.std.specs.Map.{lookup}
use Rattle.std.specs.Option.{option_or}
use Rattle.std.proofs.Common.{true≢false, sym, ap, ◌∙◌, refl, subst}
use Rattle.sf_base.specs.declared.value.Value.{Value}
use Rattle.sf_base.specs.HeapStore.{Apart, Slot, Splits, Store, same_slot}
use Rattle.sf_base.proofs.StoreSplits.{slot-same}
use Rattle.sf_frame.specs.Checked.Spots.{KeysFit, SlotFits}
use Rattle.sf_frame.specs.declared.spot.Spot.{Spot}
use Rattle.sf_frame.specs.declared.spot.Spot.TheVariants.{Shared, Own}
use Rattle.sf_frame.specs.Spots.{slot_of, spot_of, spots, store_by}
use Rattle.sf_frame.proofs.Spots.{spot_found, spot_slot}

-- the index of a slot that is there fits
pub key_fits : (m : BTreeMap Spot Value) → KeysFit m → (s : Spot) (v : Value)
    → get spots m s ≡ Some v
    → SlotFits (slot_of s)
key_fits m fit (Shared r i) v h = tt
key_fits m fit (Own e i) v h = fit e i (ap is_some h)

-- a key that the map has is a slot that is there
pub key_slot : (m : BTreeMap Spot Value) (s : Spot) (v : Value) → get spots m s ≡ Some v
    → store_by m (slot_of s) ≡ Some v
key_slot m s v h = ap (get spots m) (spot_slot s) ∙ h

-- what is there has a value
key_there : (s : Spot) (v : Value) (store : Store) (slot : Slot) → store (slot_of s) ≡ Some v
    → same_slot slot (slot_of s) ≡ true → store slot ≡ Some v
key_there s v store slot h e = ap store (slot-same (slot_of s) slot e) ∙ h

-- a slot that the others lack has its value in the end
pub moved_done : (s : Spot) (v : Value) (rest : List (Spot × Value)) (other old new begun : Store)
    (slot : Slot)
    → other (slot_of s) ≡ Some v → new slot ≡ cond (same_slot slot (slot_of s)) (Some v) (old slot)
    → (lookup (is_at (spots (spot_of slot))) ((s, v) ∷ rest) ≡ None
    → old slot ≡ option_or (other slot) (begun slot))
    → lookup (is_at (spots (spot_of slot))) rest ≡ None
    → new slot ≡ option_or (other slot) (begun slot)
moved_done s v rest other old new begun slot there is before none =
    go (same_slot slot (slot_of s)) refl
  where
    go : (b : Bool) → same_slot slot (slot_of s) ≡ b
        → new slot ≡ option_or (other slot) (begun slot)
    go true e =
        is ∙ ap (λ t. cond t (Some v) (old slot)) e
        ∙ sym (ap (λ o. option_or o (begun slot)) (key_there s v other slot there e))
    go false e =
        is ∙ ap (λ t. cond t (Some v) (old slot)) e
        ∙ before (ap (λ t. cond t (Some v) (lookup (is_at (spots (spot_of slot))) rest))
        (spot_found s slot ∙ e) ∙ none)

-- a slot that the other store lacks stays as it was
pub moved_others : (s : Spot) (v : Value) (other old new begun : Store) (slot : Slot)
    → other (slot_of s) ≡ Some v → new slot ≡ cond (same_slot slot (slot_of s)) (Some v) (old slot)
    → (other slot ≡ None → old slot ≡ begun slot) → other slot ≡ None → new slot ≡ begun slot
moved_others s v other old new begun slot there is before none = go
    (same_slot slot (slot_of s)) refl
  where
    go : (b : Bool) → same_slot slot (slot_of s) ≡ b → new slot ≡ begun slot
    go true e = absurd (true≢false (sym (ap is_some (key_there s v other slot there e))
        ∙ ap is_some none))
    go false e = is ∙ ap (λ t. cond t (Some v) (old slot)) e ∙ before none

-- the slots that passed a test, and the others
moved_apart : (x y z : Option Value) → z ≡ cond (is_some x) None y → Apart x z
moved_apart None y z e = tt
moved_apart (Some v) y z e = subst (Apart (Some v)) (sym e) tt

moved_is : (b : Bool) (x y z : Option Value) → x ≡ cond b y None → z ≡ cond (is_some x) None y
    → y ≡ option_or x z
moved_is b None y z e f = sym f
moved_is true (Some v) y z e f = sym e
moved_is false (Some v) y z e f = absurd (cc)

pub moved_parts : (test : Slot → Bool) (whole part rest : Store)
    → ((slot : Slot) → part slot ≡ cond (test slot) (whole slot) None)
    → ((slot : Slot) → rest slot ≡ cond (is_some (part slot)) None (whole slot))
    → Splits whole part rest
moved_parts test whole part rest e f = record {
  apart = λ slot. moved_apart (part slot) (whole slot) (rest slot) (f slot);
  is = λ slot. moved_is (test slot) (part slot) (whole slot) (rest slot) (e slot) (f slot);
}
