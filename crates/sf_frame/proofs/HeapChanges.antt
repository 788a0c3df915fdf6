-- What an event makes of a heap: a cell put at a location, a field of it, and a cell taken away.
-- Names: `WORD_at` where WORD is `insert`, `put` or `remove`; `width_WORD` of how many fields cells have.
use Rattle.std.specs.Prelude.{◌≡◌, ℕ, ◌<◌, ◌==◌, Bool, true, false, cond, length, get_or, slice_set, Option, Some, None}
use Rattle.std.specs.FinMap.{get, insert, remove, get-insert, get-remove}
use Rattle.std.specs.Option.{option_map}
use Rattle.std.specs.Ordering.{nat_cmp, eq_by_cmp}
use Rattle.std.specs.Cmp.{unsigned_ties}
use Rattle.std.proofs.Common.{sym, ap, ◌∙◌, refl, inl, inr, arith}
use Rattle.std.proofs.lemmas.Bool.{cases_eq}
use Rattle.std.proofs.lemmas.Bool.Decides.{nat_tests}
use Rattle.std.proofs.lemmas.Cmp.{nat_cmp_total}
use Rattle.std.proofs.lemmas.List.{get_or-set_other, get_or-set_same}
use Rattle.std.proofs.lemmas.Option.{none-some, same_Some}
use Rattle.sf_base.specs.declared.value.Value.{Value}
use Rattle.sf_base.specs.declared.value.Value.TheVariants.{Nil as nil}
use Rattle.sf_base.specs.HeapStore.{Cell, put_field}
use Rattle.sf_foot.specs.Starting.{HasWidth}
use Rattle.sf_heap.specs.Cells.{Cells, FieldValues, cell_of, heap_of}

-- a choice of cells, as the heap of the definitions has them
chosen : (b : Bool) (k : Option FieldValues) (o : Option FieldValues)
    → option_map cell_of (cond b k o) ≡ cond b (option_map cell_of k) (option_map cell_of o)
chosen true k o = refl
chosen false k o = refl

-- a cell put at a location
pub insert_at : (m : Cells) (at : ℕ) (k : FieldValues) (w : Option Cell) → w ≡ Some (cell_of k) → (l : ℕ)
    → heap_of (insert m at k) l ≡ cond (l == at) w (heap_of m l)
insert_at m at k w e l =
    ap (option_map cell_of) (get-insert nat_cmp_total m at k l)
    ∙ chosen (eq_by_cmp nat_cmp l at) (Some k) (get m l)
    ∙ (λ i. cond (sym (unsigned_ties l at) i) (sym e i) (heap_of m l))

-- a cell taken away
pub remove_at : (m : Cells) (at : ℕ) (l : ℕ) → heap_of (remove m at) l ≡ cond (l == at) None (heap_of m l)
remove_at m at l =
    ap (option_map cell_of) (get-remove nat_cmp_total m at l)
    ∙ chosen (eq_by_cmp nat_cmp l at) None (get m l)
    ∙ ap (λ b. cond b None (heap_of m l)) (sym (unsigned_ties l at))

-- a cell with that many fields, put at a location: all have as many
pub width_insert : (m : Cells) (at : ℕ) (k : FieldValues) (count : ℕ) → length k ≡ count → HasWidth count m
    → HasWidth count (insert m at k)
width_insert m at k count e w l values h =
    go (eq_by_cmp nat_cmp l at) (sym (get-insert nat_cmp_total m at k l) ∙ h)
  where
    go : (b : Bool) → cond b (Some k) (get m l) ≡ Some values → length values ≡ count
    go true s = ap length (sym (same_Some k values s)) ∙ e
    go false s = w l values s

-- and where one is taken away
pub width_remove : (m : Cells) (at count : ℕ) → HasWidth count m → HasWidth count (remove m at)
width_remove m at count w l values h =
    go (eq_by_cmp nat_cmp l at) (sym (get-remove nat_cmp_total m at l) ∙ h)
  where
    go : (b : Bool) → cond b None (get m l) ≡ Some values → length values ≡ count
    go true s = absurd (none-some values s)
    go false s = w l values s

-- a cell with another value in a field, put in the place of the one that was there
pub put_at : (m : Cells) (at f : ℕ) (v : Value) (old new : FieldValues) → Some old ≡ get m at
    → ((other : ℕ) → get_or new other nil ≡ cond (other == f) v (get_or old other nil)) → (l : ℕ)
    → heap_of (insert m at new) l ≡ cond (l == at) (option_map (λ k. put_field k f v) (heap_of m at)) (heap_of m l)
put_at m at f v old new e h l =
    insert_at m at new (option_map (λ k. put_field k f v) (heap_of m at))
    (ap (λ o. option_map (λ k. put_field k f v) (option_map cell_of o)) (sym e)
    ∙ ap Some (λ i other. sym (h other) i)) l

-- a value put into a field that is there
pub field_at : (xs : FieldValues) (f : ℕ) (v : Value) (other : ℕ) → f < length xs
    → get_or (slice_set xs f v) other nil ≡ cond (other == f) v (get_or xs other nil)
field_at xs f v other l = elim (cases_eq other f) [
  | inl s ↦
      let test : (other == f) ≡ true = grind (arith, nat_tests) in
      ap (λ z. get_or (slice_set xs f v) z nil) s ∙ get_or-set_same xs f v nil l
      ∙ ap (λ b. cond b v (get_or xs other nil)) (sym test)
  | inr n ↦
      let test : (other == f) ≡ false = grind (arith, nat_tests) in
      get_or-set_other xs f other v nil n ∙ ap (λ b. cond b v (get_or xs other nil)) (sym test)
]
