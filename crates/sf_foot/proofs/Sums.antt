-- Parts of a heap at locations that differ, one after the other.
-- Names: `part-LAW` of parts, `distinct-LAW` of locations, `have-LAW` of locations with cells.
use Rattle.std.proofs.Common.{◌≡◌, ◌==◌, ◌||◌, ℕ, Bool, true, false, cond, List, [], ◌∷◌, ◌++◌, Option, Some, None, is_some, refl, sym, ap, ◌∙◌, subst, subst₂}
use Rattle.std.specs.FinMap.{get}
use Rattle.std.specs.List.{list_any}
use Rattle.std.specs.Option.{option_map, option_or}
use Rattle.std.proofs.lemmas.Bool.{or_cases}
use Rattle.std.proofs.lemmas.Bool.Decides.{Decides-eqb}
use Rattle.std.proofs.lemmas.List.Folds.{list_any-append}
use Rattle.std.proofs.lemmas.Option.{none-some}
use Rattle.std.proofs.lemmas.Bool.{false≢true}
use Rattle.sf_base.proofs.Sums.{either}
use Rattle.sf_base.specs.HeapStore.{Apart, Cell, Heap, Splits}
use Rattle.sf_base.proofs.MapSplits.{apart-none, splits-lacks_right, splits-same_whole}
use Rattle.sf_heap.specs.Cells.{Cells, HasCell, cell_of, heap_of}
use Rattle.sf_foot.specs.Checked.Places.{part_at}
use Rattle.sf_foot.proofs.Parts.{Distinct}
use Rattle.sf_foot.proofs.Pigeons.{AllHave}

-- whether a location is one of these
abbrev pub is_among : ℕ → List ℕ → Bool
is_among l ls = list_any (λ m. l == m) ls

pub none_of : (a b : Bool) → a || b ≡ false → (a ≡ false) × (b ≡ false)
none_of true b e = absurd (false≢true (sym e))
none_of false b e = (refl, e)

none_both : (a b : Bool) → a ≡ false → b ≡ false → a || b ≡ false
none_both a b e f = ap (λ (t : Bool). t || b) e ∙ f

-- both halves of locations that differ do
pub distinct-left : (xs ys : List ℕ) → Distinct (xs ++ ys) → Distinct xs
distinct-left [] ys d = tt
distinct-left (x ∷ xs) ys d =
    ((none_of (is_among x xs) (is_among x ys) (sym (list_any-append (λ m. x == m) xs ys) ∙ d.0)).0, distinct-left xs ys d.1)

pub distinct-right : (xs ys : List ℕ) → Distinct (xs ++ ys) → Distinct ys
distinct-right [] ys d = d
distinct-right (x ∷ xs) ys d = distinct-right xs ys d.1

same-among : (q x : ℕ) (ys : List ℕ) → (q == x) ≡ true → is_among q ys ≡ is_among x ys
same-among q x ys e = ap (λ k. is_among k ys) ((Decides-eqb q x).0 e)

-- no location is in both
distinct-apart : (xs ys : List ℕ) (q : ℕ) → Distinct (xs ++ ys) → is_among q xs ≡ true → is_among q ys ≡ false
distinct-apart [] ys q d e = absurd (false≢true e)
distinct-apart (x ∷ xs) ys q d e = either (or_cases (q == x) (is_among q xs) e)
    (λ i. same-among q x ys i
    ∙ (none_of (is_among x xs) (is_among x ys) (sym (list_any-append (λ m. x == m) xs ys) ∙ d.0)).1)
    (λ i. distinct-apart xs ys q d.1 i)

-- locations that differ from each other, and from those others
pub distinct-both : (xs ys : List ℕ) → Distinct xs → Distinct ys
    → ((q : ℕ) → is_among q xs ≡ true → is_among q ys ≡ false) → Distinct (xs ++ ys)
distinct-both [] ys d e f = e
distinct-both (x ∷ xs) ys d e f = (
  list_any-append (λ m. x == m) xs ys ∙ none_both (is_among x xs) (is_among x ys) d.0 (f x (ap (λ (t : Bool). t || is_among x xs) (self x))),
  distinct-both xs ys d.1 e (λ q i. f q (later (q == x) (is_among q xs) i)),
)
  where
    self : (n : ℕ) → (n == n) ≡ true
    self n = (Decides-eqb n n).1 refl

    later : (a b : Bool) → b ≡ true → a || b ≡ true
    later true b e = refl
    later false b e = e

cond-same : (b : Bool) (o : Option Cell) → o ≡ cond b o o
cond-same true o = refl
cond-same false o = refl

-- the parts at two lists of locations make up the part at both
pub part-append : (heap : Heap) (xs ys : List ℕ) → Distinct (xs ++ ys)
    → Splits (part_at (xs ++ ys) heap) (part_at xs heap) (part_at ys heap)
part-append heap xs ys d = record {
  apart = λ q. apart (is_among q xs) (is_among q ys) (heap q) (distinct-apart xs ys q d);
  is = λ q. ap (λ (t : Bool). cond t (heap q) None) (list_any-append (λ m. q == m) xs ys)
      ∙ is (is_among q xs) (is_among q ys) (heap q);
}
  where
    apart : (a b : Bool) (o : Option Cell) → (a ≡ true → b ≡ false) → Apart (cond a o None) (cond b o None)
    apart true b o h = subst (λ (t : Bool). Apart o (cond t o None)) (sym (h refl)) (apart-none o)
    apart false b o h = tt

    is : (a b : Bool) (o : Option Cell) → cond (a || b) o None ≡ option_or (cond a o None) (cond b o None)
    is true b None = cond-same b None
    is true b (Some c) = refl
    is false b o = refl

-- a location of a list has its cell
pub have-among : (heap : Cells) (ls : List ℕ) (q : ℕ) → AllHave heap ls → is_among q ls ≡ true → HasCell heap q
have-among heap [] q h e = absurd (false≢true e)
have-among heap (l ∷ ls) q h e = either (or_cases (q == l) (is_among q ls) e)
    (λ i. subst (HasCell heap) (sym ((Decides-eqb q l).0 i)) h.0) (λ i. have-among heap ls q h.1 i)

-- what parts of one heap are at locations that differ is at all of them
pub part-both : (heap : Cells) (xs ys : List ℕ) (part one two : Heap) → Splits part one two
    → AllHave heap xs → Distinct xs → Distinct ys → one ≡ part_at xs (heap_of heap) → two ≡ part_at ys (heap_of heap)
    → Distinct (xs ++ ys) × (part ≡ part_at (xs ++ ys) (heap_of heap))
part-both heap xs ys part one two s all d e f g =
    let differ = distinct-both xs ys d e apart in
    (differ, splits-same_whole (subst₂ (Splits part) f g s) (part-append (heap_of heap) xs ys differ))
  where
    use_cell : (o : Option _) → is_some o ≡ true → (c : Cell) × (option_map cell_of o ≡ Some c)
    use_cell None e = absurd (false≢true e)
    use_cell (Some v) e = (cell_of v, refl)

    apart : (q : ℕ) → is_among q xs ≡ true → is_among q ys ≡ false
    apart q i =
        let here = use_cell (get heap q) (have-among heap xs q all i) in
        let first : one q ≡ Some here.0 = ap (λ h. h q) f ∙ ap (λ (t : Bool). cond t (heap_of heap q) None) i ∙ here.1 in
        step (is_among q ys) refl here.0 here.1 (sym (ap (λ h. h q) g) ∙ splits-lacks_right q here.0 s first)
      where
        step : (t : Bool) → is_among q ys ≡ t → (c : Cell) → heap_of heap q ≡ Some c
            → cond (is_among q ys) (heap_of heap q) None ≡ None → is_among q ys ≡ false
        step true j c h k = absurd (none-some c (sym k ∙ ap (λ (t : Bool). cond t (heap_of heap q) None) j ∙ h))
        step false j c h k = j
