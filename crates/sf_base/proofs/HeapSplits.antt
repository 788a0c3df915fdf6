-- Heaps: one cell, and the separating conjunction.
-- Names: `one-LAW` speaks of a heap with one cell, `star-LAW` of ⋆; `_left` and `_right` say on which side.
use Rattle.std.specs.Prelude.{◌≡◌, ◌≢◌, ℕ, Bool, true, false, cond, Option, Some, None, ◌⊎◌, ◌↔◌, ◌==◌}
use Rattle.std.proofs.Common.{sym, ap, ◌∙◌, refl, subst, inl, inr, arith}
use Rattle.std.proofs.lemmas.Bool.Decides.{nat_tests}
use Rattle.std.proofs.lemmas.Option.{same_Some, none-some}
use Rattle.std.proofs.lemmas.Bool.{cases_eq}
use Rattle.sf_base.proofs.MapSplits.{empty_map, empty-holds, changed, only, map-same, splits-comm, splits-assoc_right, splits-assoc_left, splits-by_test, splits-changed_left, splits-put_left, splits-lacks_both, splits-cancel_left, splits-has_left, splits-lacks_right, splits-empty_left, splits-empty_right, splits-of_empty_left, splits-of_empty_right}
use Rattle.sf_base.specs.HeapStore.{Cell, Heap, IsEmpty, IsOne, Splits, ◌⋆◌}

-- the test for one location
abbrev pub at_ : ℕ → ℕ → Bool
at_ location = λ other. other == location

-- the heap with just that cell
abbrev pub single : ℕ → Cell → Heap
single location cell = changed (at_ location) (Some cell) empty_map

-- the heap with that cell put there
abbrev pub put_cell : ℕ → Cell → Heap → Heap
put_cell location cell heap = changed (at_ location) (Some cell) heap

-- the heap without the cell that is there
abbrev pub remove_cell : ℕ → Heap → Heap
remove_cell location heap = changed (at_ location) None heap

-- the test for a location is true of it alone
pub at-same : (location other : ℕ) → at_ location other ≡ true → other ≡ location
at-same a b e = grind (arith, nat_tests)

-- the test for a location is true of it
pub at-self : (location : ℕ) → at_ location location ≡ true
at-self a = grind (arith, nat_tests)

-- the test for a location is false of every other
pub at-other : (location other : ℕ) → other ≢ location → at_ location other ≡ false
at-other a b e = grind (arith, nat_tests)

-- what is put is there
pub put-here : (location : ℕ) (entry : Option Cell) (heap : Heap)
    → changed (at_ location) entry heap location ≡ entry
put-here a v h = ap (λ b. cond b v (h a)) (at-self a)

-- what is elsewhere stays
pub put-elsewhere : (location other : ℕ) (entry : Option Cell) (heap : Heap) → other ≢ location
    → changed (at_ location) entry heap other ≡ heap other
put-elsewhere a b v h n = ap (λ t. cond t v (h b)) (at-other a b n)

-- the heap with just that cell has just that cell
pub one-single : (location : ℕ) (cell : Cell) → IsOne location cell (single location cell)
one-single a c =
    record {
      here = put-here a (Some c) empty_map;
      elsewhere = λ b n. put-elsewhere a b (Some c) empty_map n;
    }

-- a heap with one cell is the one with just that cell
pub one-is : {location : ℕ} {cell : Cell} {heap : Heap} → IsOne location cell heap
    → heap ≡ single location cell
one-is {location} {cell} {heap} o = map-same heap (single location cell) (λ b. go b (cases_eq b location))
  where
    go : (b : ℕ) → (b ≡ location) ⊎ (b ≢ location) → heap b ≡ single location cell b
    go b (inl e) =
        subst (λ z. heap z ≡ single location cell z) (sym e)
        (o.here ∙ sym (put-here location (Some cell) empty_map))
    go b (inr n) = o.elsewhere b n ∙ sym (put-elsewhere location b (Some cell) empty_map n)

-- there is one heap with just that cell
pub one-same : {location : ℕ} {cell : Cell} {one two : Heap} → IsOne location cell one
    → IsOne location cell two → one ≡ two
one-same o p = one-is o ∙ sym (one-is p)

-- a heap has one cell at one place
pub one-same_place : {location other : ℕ} {cell also : Cell} {heap : Heap} → IsOne location cell heap
    → IsOne other also heap → (location ≡ other) × (cell ≡ also)
one-same_place {location} {other} {cell} {also} {heap} o p = go (cases_eq location other)
  where
    go : (location ≡ other) ⊎ (location ≢ other) → (location ≡ other) × (cell ≡ also)
    go (inl e) = (e, same_Some cell also (sym o.here ∙ ap heap e ∙ p.here))
    go (inr n) = absurd (none-some cell (sym (p.elsewhere location n) ∙ o.here))

-- a heap with one cell is not empty
pub one-not_empty : {location : ℕ} {cell : Cell} {heap : Heap} → IsOne location cell heap → IsEmpty heap → ⊥
one-not_empty {location} {cell} o e = none-some cell (sym (e.none location) ∙ o.here)

-- a heap with one cell has something just at its location
pub one-there : {location : ℕ} {cell : Cell} {heap : Heap} → IsOne location cell heap → (other : ℕ)
    → heap other ≢ None ↔ (other ≡ location)
one-there {location} {cell} {heap} o other =
    (λ n. go n (cases_eq other location), λ e s. none-some cell (sym s ∙ ap heap e ∙ o.here))
  where
    go : heap other ≢ None → (other ≡ location) ⊎ (other ≢ location) → other ≡ location
    go n (inl e) = e
    go n (inr m) = absurd (n (o.elsewhere other m))

-- one cell that a heap has splits off
pub one-splits : (location : ℕ) (cell : Cell) (heap : Heap) → heap location ≡ Some cell
    → Splits heap (single location cell) (remove_cell location heap)
one-splits a c h e = subst (λ z. Splits h z (remove_cell a h)) (go ∙ refl) (splits-by_test (at_ a) h)
  where
    at : (b : ℕ) → (b ≡ a) ⊎ (b ≢ a) → only (at_ a) h b ≡ single a c b
    at b (inl s) =
        subst (λ z. only (at_ a) h z ≡ single a c z) (sym s) (ap (λ t. cond t (h a) None) (at-self a) ∙ e
        ∙ sym (put-here a (Some c) empty_map))
    at b (inr n) = ap (λ t. cond t (h b) None) (at-other a b n) ∙ sym (put-elsewhere a b (Some c) empty_map n)

    go : only (at_ a) h ≡ single a c
    go = map-same (only (at_ a) h) (single a c) (λ b. at b (cases_eq b a))

-- what splits off beside one cell is the heap without it
pub one-rest : {heap one rest : Heap} {location : ℕ} {cell : Cell} → IsOne location cell one
    → Splits heap one rest → rest ≡ remove_cell location heap
one-rest {heap} {one} {rest} {location} {cell} o s =
    let at : heap location ≡ Some cell = splits-has_left location cell s o.here in
    splits-cancel_left (subst (λ z. Splits heap z rest) (one-is o) s) (one-splits location cell heap at)

-- a cell that is put where nothing is joins what is there
pub one-put : (location : ℕ) (cell : Cell) (heap : Heap) → heap location ≡ None
    → Splits (put_cell location cell heap) (single location cell) heap
one-put a c h e =
    splits-changed_left (at_ a) (Some c) (λ b t. subst (λ z. h z ≡ None) (sym (at-same a b t)) e)
    (splits-empty_left (record { none = λ b. refl }))

-- a cell of the left part that is changed or removed is changed or removed in the whole
pub cell-change_left : {whole left right : Heap} (location : ℕ) (old : Cell) (entry : Option Cell)
    → Splits whole left right → left location ≡ Some old
    → Splits (changed (at_ location) entry whole) (changed (at_ location) entry left) right
cell-change_left a old v s e = splits-put_left (at_ a) a v (at-same a) (splits-lacks_right a old s e) s

-- a cell of the right part that is changed or removed is changed or removed in the whole
pub cell-change_right : {whole left right : Heap} (location : ℕ) (old : Cell) (entry : Option Cell)
    → Splits whole left right → right location ≡ Some old
    → Splits (changed (at_ location) entry whole) left (changed (at_ location) entry right)
cell-change_right a old v s e = splits-comm (cell-change_left a old v (splits-comm s) e)

-- a cell that is put where the whole has nothing may be put in the left part
pub cell-new_left : {whole left right : Heap} (location : ℕ) (entry : Option Cell) → Splits whole left right
    → whole location ≡ None
    → Splits (changed (at_ location) entry whole) (changed (at_ location) entry left) right
cell-new_left a v s e = splits-put_left (at_ a) a v (at-same a) (splits-lacks_both a s e).1 s

-- a cell that is put where the whole has nothing may be put in the right part
pub cell-new_right : {whole left right : Heap} (location : ℕ) (entry : Option Cell)
    → Splits whole left right → whole location ≡ None
    → Splits (changed (at_ location) entry whole) left (changed (at_ location) entry right)
cell-new_right a v s e = splits-comm (cell-new_left a v (splits-comm s) e)

-- a cell that is put in place of another is the only one
pub one-put_cell : {location : ℕ} {old : Cell} {heap : Heap} (new : Cell) → IsOne location old heap
    → IsOne location new (put_cell location new heap)
one-put_cell {location} {heap = heap} new o =
    record {
      here = put-here location (Some new) heap;
      elsewhere = λ b n. put-elsewhere location b (Some new) heap n ∙ o.elsewhere b n;
    }

-- without its only cell a heap is empty
pub one-remove_cell : {location : ℕ} {cell : Cell} {heap : Heap} → IsOne location cell heap
    → IsEmpty (remove_cell location heap)
one-remove_cell {location} {heap = heap} o = record { none = λ b. go b (cases_eq b location) }
  where
    go : (b : ℕ) → (b ≡ location) ⊎ (b ≢ location) → remove_cell location heap b ≡ None
    go b (inl e) = subst (λ z. remove_cell location heap z ≡ None) (sym e) (put-here location None heap)
    go b (inr n) = put-elsewhere location b None heap n ∙ o.elsewhere b n

-- one cell in a part of a heap is in the heap
pub one-in : {heap one rest : Heap} {location : ℕ} {cell : Cell} → IsOne location cell one
    → Splits heap one rest → heap location ≡ Some cell
one-in {location = location} {cell} o s = splits-has_left location cell s o.here

module _ {P Q : Heap → Type 0} where
  -- two heaps with their properties make one
  pub star-of : {heap left right : Heap} → Splits heap left right → P left → Q right → (P ⋆ Q) heap
  star-of s p q = record { left = _; right = _; splits = s; first = p; second = q }

  -- ⋆ is commutative
  pub star-comm : {heap : Heap} → (P ⋆ Q) heap → (Q ⋆ P) heap
  star-comm d =
      record {
        left = d.right;
        right = d.left;
        splits = splits-comm d.splits;
        first = d.second;
        second = d.first;
      }

module _ {P : Heap → Type 0} where
  -- nothing more is there on the right
  pub star-empty_right : {heap : Heap} → P heap → (P ⋆ IsEmpty) heap
  star-empty_right p =
      record {
        left = _;
        right = empty_map;
        splits = splits-empty_right empty-holds;
        first = p;
        second = empty-holds;
      }

  -- nothing more is there on the left
  pub star-empty_left : {heap : Heap} → P heap → (IsEmpty ⋆ P) heap
  star-empty_left p =
      record {
        left = empty_map;
        right = _;
        splits = splits-empty_left empty-holds;
        first = empty-holds;
        second = p;
      }

  -- what is empty on the right is dropped
  pub star-drop_right : {heap : Heap} → (P ⋆ IsEmpty) heap → P heap
  star-drop_right d = subst P (sym (splits-of_empty_right d.second d.splits)) d.first

  -- what is empty on the left is dropped
  pub star-drop_left : {heap : Heap} → (IsEmpty ⋆ P) heap → P heap
  star-drop_left d = subst P (sym (splits-of_empty_left d.first d.splits)) d.second

module _ {P Q R : Heap → Type 0} where
  -- (P Q) R becomes P (Q R)
  pub star-assoc_right : {heap : Heap} → ((P ⋆ Q) ⋆ R) heap → (P ⋆ (Q ⋆ R)) heap
  star-assoc_right d =
      let s = splits-assoc_right d.first.splits d.splits in
      star-of s.1 d.first.first (star-of s.0 d.first.second d.second)

  -- P (Q R) becomes (P Q) R
  pub star-assoc_left : {heap : Heap} → (P ⋆ (Q ⋆ R)) heap → ((P ⋆ Q) ⋆ R) heap
  star-assoc_left d =
      let s = splits-assoc_left d.second.splits d.splits in
      star-of s.1 (star-of s.0 d.first d.second.first) d.second.second

  -- what holds of the left part becomes something else
  pub star-map_left : {heap : Heap} → ((part : Heap) → P part → Q part) → (P ⋆ R) heap → (Q ⋆ R) heap
  star-map_left f d = star-of d.splits (f d.left d.first) d.second

  -- what holds of the right part becomes something else
  pub star-map_right : {heap : Heap} → ((part : Heap) → P part → Q part) → (R ⋆ P) heap → (R ⋆ Q) heap
  star-map_right f d = star-of d.splits d.first (f d.right d.second)

-- P (Q R) becomes Q (P R)
pub star-swap : {P Q R : Heap → Type 0} {heap : Heap} → (P ⋆ (Q ⋆ R)) heap → (Q ⋆ (P ⋆ R)) heap
star-swap d = star-assoc_right (star-map_left (λ part e. star-comm e) (star-assoc_left d))

-- both sides become something else
pub star-map : {P Q R S : Heap → Type 0} {heap : Heap} → ((part : Heap) → P part → R part)
    → ((part : Heap) → Q part → S part) → (P ⋆ Q) heap → (R ⋆ S) heap
star-map f g d = star-of d.splits (f d.left d.first) (g d.right d.second)
