-- Slots of the code and of the definitions.
-- Names: `spot_LAW`.
use Rattle.std.specs.Prelude.{◌≡◌, ℕ, ◌&&◌, ◌==◌}
use Rattle.std.proofs.Common.{sym, ◌∙◌, refl, arith}
use Rattle.std.specs.declared.cmp.Ordering.{Ordering}
use Rattle.std.specs.declared.cmp.Ordering.TheVariants.{Less, Equal, Greater}
use Rattle.std.specs.Ordering.{is_eq, ordering_then, nat_cmp}
use Rattle.std.specs.Cmp.{unsigned_ties}
use Rattle.std.proofs.lemmas.Bool.Decides.{nat_tests}
use Rattle.sf_base.specs.HeapStore.{Slot, shared, own, same_slot}
use Rattle.sf_frame.specs.declared.spot.Spot.{Spot}
use Rattle.sf_frame.specs.declared.spot.Spot.TheVariants.{Shared, Own}
use Rattle.sf_frame.specs.Spots.{slot_of, spot_of, spots}

-- a slot read as one of the definitions and back is that slot
pub spot_slot : (s : Spot) → spot_of (slot_of s) ≡ s
spot_slot (Shared r i) = refl
spot_slot (Own e i) = refl

-- two comparisons in turn find two pairs equal where both do
pub then_test : (a b : Ordering) → is_eq (ordering_then a b) ≡ (is_eq a && is_eq b)
then_test Less b = refl
then_test Equal b = refl
then_test Greater b = refl

-- numbers compare equal where they are equal, either way
pub number_test : (m n : ℕ) → is_eq (nat_cmp m n) ≡ (n == m)
number_test m n =
    let ties : (m == n) ≡ is_eq (nat_cmp m n) = unsigned_ties m n in
    let other : (m == n) ≡ (n == m) = grind (arith, nat_tests) in
    sym ties ∙ other

-- and so it does from the one to the other
number_found : (m n : ℕ) → is_eq (nat_cmp m n) ≡ (m == n)
number_found m n = sym (unsigned_ties m n)

-- the order finds two slots equal where the test does
pub spot_test : (s : Spot) (slot : Slot) → is_eq (spots s (spot_of slot)) ≡ same_slot slot
    (slot_of s)
spot_test (Shared r i) (shared q j) =
    then_test (nat_cmp r.0 q.0) (nat_cmp i j) ∙ (λ k. number_test r.0 q.0 k && number_test i j k)
spot_test (Shared r i) (own f j) = refl
spot_test (Own e i) (shared q j) = refl
spot_test (Own e i) (own f j) = then_test (nat_cmp e f) (nat_cmp i j)
    ∙ (λ k. number_test e f k && number_test i j k)

-- and so it does the other way round
pub spot_found : (s : Spot) (slot : Slot) → is_eq (spots (spot_of slot) s) ≡ same_slot slot
    (slot_of s)
spot_found (Shared r i) (shared q j) =
    then_test (nat_cmp q.0 r.0) (nat_cmp j i) ∙ (λ k. number_found q.0 r.0 k && number_found j i k)
spot_found (Shared r i) (own f j) = refl
spot_found (Own e i) (shared q j) = refl
spot_found (Own e i) (own f j) = then_test (nat_cmp f e) (nat_cmp j i)
    ∙ (λ k. number_found f e k && number_found j i k)
