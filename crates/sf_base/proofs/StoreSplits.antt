-- Stores: which slot is which, and a change of one slot on one side of a split.
-- Names: `slot-LAW` speaks of slots and of the store's entries at them, `resource-LAW` of the numbers of
-- resources.
use Rattle.std.specs.Prelude.{◌≡◌, ◌≢◌, ◌⊎◌, Bool, true, false, cond, Option, Some, ◌==◌}
use Rattle.std.proofs.Common.{true≢false, sym, ap, ◌∙◌, refl, inl, inr, arith}
use Rattle.std.proofs.lemmas.Bool.Decides.{nat_tests}
use Rattle.sf_base.specs.declared.ids.ResId.{ResId}
use Rattle.sf_base.specs.declared.value.Value.{Value}
use Rattle.sf_base.proofs.MapSplits.{changed, splits-comm, splits-lacks_right, splits-put_left}
use Rattle.sf_base.specs.HeapStore.{Slot, Splits, Store, own, same_slot, shared}

-- the test for one slot
abbrev pub at_slot : Slot → Slot → Bool
at_slot slot = λ other. same_slot other slot

-- slots that the test takes for one are one
pub slot-same : (slot other : Slot) → at_slot slot other ≡ true → other ≡ slot
slot-same (shared r i) (shared s j) e = grind (arith, nat_tests)
slot-same (shared r i) (own f j) e = absurd (true≢false (sym e))
slot-same (own d i) (shared s j) e = absurd (true≢false (sym e))
slot-same (own d i) (own f j) e = grind (arith, nat_tests)

-- a slot is itself
pub slot-self : (slot : Slot) → at_slot slot slot ≡ true
slot-self (shared r i) = grind (arith, nat_tests)
slot-self (own d i) = grind (arith, nat_tests)

-- each slot is the one or another
pub slot-which : (slot other : Slot) → (other ≡ slot) ⊎ ((other ≢ slot) × (at_slot slot other ≡ false))
slot-which a b = go (at_slot a b) refl
  where
    go : (t : Bool) → at_slot a b ≡ t → (b ≡ a) ⊎ ((b ≢ a) × (at_slot a b ≡ false))
    go true e = inl (slot-same a b e)
    go false e = inr (λ s. true≢false (sym (slot-self a) ∙ ap (at_slot a) (sym s) ∙ e), e)

-- the test for a slot is false of every other
pub slot-other : (slot other : Slot) → other ≢ slot → at_slot slot other ≡ false
slot-other a b n = go (slot-which a b)
  where
    go : (b ≡ a) ⊎ ((b ≢ a) × (at_slot a b ≡ false)) → at_slot a b ≡ false
    go (inl e) = absurd (n e)
    go (inr e) = e.1

-- what is put in a slot is there
pub slot-here : (slot : Slot) (entry : Option Value) (store : Store)
    → changed (at_slot slot) entry store slot ≡ entry
slot-here a v s = ap (λ b. cond b v (s a)) (slot-self a)

-- what is in the other slots stays
pub slot-elsewhere : (slot other : Slot) (entry : Option Value) (store : Store) → other ≢ slot
    → changed (at_slot slot) entry store other ≡ store other
slot-elsewhere a b v s n = ap (λ t. cond t v (s b)) (slot-other a b n)

-- a slot of the left part that is changed or removed is changed or removed in the whole
pub slot-change_left : {whole left right : Store} (slot : Slot) (old : Value) (entry : Option Value)
    → Splits whole left right → left slot ≡ Some old
    → Splits (changed (at_slot slot) entry whole) (changed (at_slot slot) entry left) right
slot-change_left a old v s e = splits-put_left (at_slot a) a v (slot-same a) (splits-lacks_right a old s e) s

-- a slot of the right part that is changed or removed is changed or removed in the whole
pub slot-change_right : {whole left right : Store} (slot : Slot) (old : Value) (entry : Option Value)
    → Splits whole left right → right slot ≡ Some old
    → Splits (changed (at_slot slot) entry whole) left (changed (at_slot slot) entry right)
slot-change_right a old v s e = splits-comm (slot-change_left a old v (splits-comm s) e)

-- resources of one number are one
pub resource-is : (one two : ResId) → one.0 ≡ two.0 → one ≡ two
resource-is r s e = λ i. record { 0 = e i }

-- and so are those whose numbers a test finds to be the same
pub resource-same : (one two : ResId) → one.0 == two.0 ≡ true → one ≡ two
resource-same r s e = grind (arith, nat_tests)
