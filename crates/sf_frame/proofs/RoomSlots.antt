-- The slots of a room, one after the other.
-- Names: `room_LAW`.
use Rattle.std.specs.Prelude.{◌≡◌, ◌⊎◌, ℕ, ◌+◌, ◌≤◌, ◌<◌, true}
use Rattle.std.proofs.Common.{true≢false, sym, inl, inr, arith}
use Rattle.std.proofs.lemmas.Bool.{cases_eq}
use Rattle.std.proofs.lemmas.Bool.Decides.{nat_tests}
use Rattle.sf_base.specs.HeapStore.{Slot, shared, own}
use Rattle.sf_core.specs.Machine.Config.{in_room}
use Rattle.sf_frame.specs.Checked.Frames.{first_slots}

-- a slot of a room is one of a larger one
pub room_keeps : (event first i : ℕ) (slot : Slot) → in_room (first_slots event first i) slot ≡ true
    → in_room (first_slots event first (i + 1)) slot ≡ true
room_keeps event first i (shared r k) h = absurd (true≢false (sym h))
room_keeps event first i (own e k) h = grind (arith, nat_tests)

-- a slot of the larger one is in the other, or the last
pub room_splits : (event first i : ℕ) (slot : Slot) → in_room (first_slots event first (i + 1)) slot ≡ true
    → (in_room (first_slots event first i) slot ≡ true) ⊎ (slot ≡ own event (first + i))
room_splits event first i (shared r k) h = absurd (true≢false (sym h))
room_splits event first i (own e k) h =
    let here : e ≡ event = grind (arith, nat_tests) in
    elim (cases_eq k (first + i)) [
      | inl s ↦ inr (λ j. own (here j) (s j))
      | inr n ↦ inl (grind (arith, nat_tests))
    ]

-- no slot is in a room of none
pub room_nowhere : (event first : ℕ) (slot : Slot) → in_room (first_slots event first 0) slot ≡ true → ⊥
room_nowhere event first (shared r k) h = true≢false (sym h)
room_nowhere event first (own e k) h =
    let low : first ≤ k = grind (arith, nat_tests) in
    let high : k < first + 0 = grind (arith, nat_tests) in
    absurd (omega (arith, low, high))
