-- Rooms that come up slot by slot, and vanish.
-- Names: `room_LAW` speaks of the slots of a room, `opened_LAW` and `closed_LAW` of a store.
use Rattle.std.specs.Prelude.{◌≡◌, ℕ, ◌+◌, ◌-◌, Bool, true, false, ◌||◌, cond, List, get_or, Option, Some, None}
use Rattle.std.proofs.Common.{true≢false, sym, ap, ◌∙◌, refl, subst, inl, inr, arith}
use Rattle.sf_base.specs.declared.value.Value.{Value}
use Rattle.sf_base.specs.declared.value.Value.TheVariants.{Nil as nil}
use Rattle.sf_base.specs.HeapStore.{Slot, own, same_slot}
use Rattle.sf_base.proofs.StoreSplits.{slot-same}
use Rattle.sf_core.specs.Machine.Config.{in_room}
use Rattle.sf_core.specs.Machine.Step.{index_of}
use Rattle.sf_core.proofs.Machine.InOrder.Names.{in_room-own}
use Rattle.sf_frame.specs.Checked.Frames.{first_slots}
use Rattle.sf_frame.proofs.RoomSlots.{room_keeps, room_nowhere, room_splits}

-- a room with one slot more
pub room_next : (event first i : ℕ) (slot : Slot) → in_room (first_slots event first (i + 1)) slot
    ≡ (same_slot slot (own event (first + i)) || in_room (first_slots event first i) slot)
room_next event first i slot = go (same_slot slot (own event (first + i))) (in_room (first_slots event first i) slot)
    (in_room (first_slots event first (i + 1)) slot) refl refl refl
  where
    go : (a b d : Bool) → same_slot slot (own event (first + i)) ≡ a
        → in_room (first_slots event first i) slot ≡ b
        → in_room (first_slots event first (i + 1)) slot ≡ d → d ≡ (a || b)
    go true b d e f g =
        let same : slot ≡ own event (first + i) = slot-same (own event (first + i)) slot e in
        sym g ∙ subst (λ z. in_room (first_slots event first (i + 1)) z ≡ true) (sym same)
        (in_room-own event first (i + 1) i (omega arith))
    go false true d e f g = sym g ∙ room_keeps event first i slot f
    go false false false e f g = refl
    go false false true e f g = elim (room_splits event first i slot g) [
      | inl k ↦ absurd (true≢false (sym k ∙ f))
      | inr k ↦ absurd (true≢false (sym (ap (λ z. same_slot z (own event (first + i))) k
          ∙ own_self event (first + i)) ∙ e))
    ]
      where
        own_self : (e i : ℕ) → same_slot (own e i) (own e i) ≡ true
        own_self e i = grind arith

-- no slot is in a room of none
pub room_empty : (event first : ℕ) (slot : Slot) → in_room (first_slots event first 0) slot ≡ false
room_empty event first slot = go (in_room (first_slots event first 0) slot) refl
  where
    go : (b : Bool) → in_room (first_slots event first 0) slot ≡ b → b ≡ false
    go true e = absurd (room_nowhere event first slot e)
    go false e = refl

-- one slot more has vanished
pub closed_next : {X : Type 0} (a b d : Bool) (now before : Option X) → d ≡ (a || b)
    → now ≡ cond b None before → cond a None now ≡ cond d None before
closed_next true b d now before e h = ap (λ z. cond z None before) (sym e)
closed_next false b d now before e h = h ∙ ap (λ z. cond z None before) (sym e)

-- one slot more has come up
pub opened_next : {X : Type 0} (a b d : Bool) (x y : X) (now before : Option X) → d ≡ (a || b)
    → (a ≡ true → x ≡ y) → now ≡ cond b (Some y) before → cond a (Some x) now ≡ cond d (Some y) before
opened_next true b d x y now before e same h =
    ap Some (same refl) ∙ ap (λ z. cond z (Some y) before) (sym e)
opened_next false b d x y now before e same h = h ∙ ap (λ z. cond z (Some y) before) (sym e)

-- the value of the slot that comes up is the one at its place
pub opened_value : (event first i : ℕ) (values : List Value) (slot : Slot) (x : Value)
    → x ≡ get_or values i nil → same_slot slot (own event (first + i)) ≡ true
    → x ≡ get_or values (index_of slot - first) nil
opened_value event first i values slot x e h =
    let same : slot ≡ own event (first + i) = slot-same (own event (first + i)) slot h in
    let place : i ≡ index_of (own event (first + i)) - first = omega arith in
    e ∙ ap (λ z. get_or values z nil) (place ∙ ap (λ z. index_of z - first) (sym same))

-- what came up vanished again
pub opened_closed : {X : Type 0} (b : Bool) (x : X) (now before : Option X) → now ≡ cond b (Some x) before
    → (b ≡ true → before ≡ None) → cond b None now ≡ before
opened_closed true x now before e h = sym (h refl)
opened_closed false x now before e h = e
