-- How what is found in lists of entries adds up, and what that says of finite maps and of heaps.
-- Names: `Apart-LAW` for two that are not both there; `Splits-LAW` for maps that split.
use Rattle.std.proofs.Common.{◌≡◌, ℕ, true, false, cond, List, [], ◌∷◌, ◌++◌, Option, Some, None, refl, sym, ap, ◌∙◌, subst, arith}
use Rattle.std.specs.FinMap.{get}
use Rattle.std.specs.Option.{option_map, option_or}
use Rattle.std.specs.Ordering.{nat_cmp, eq_by_cmp}
use Rattle.sf_base.specs.HeapStore.{Apart, Splits}
use Rattle.sf_heap.specs.Cells.{AreDisjoint, Cells, cell_of, heap_of}
use Rattle.sf_heap.specs.declared.tree.Entry.{Entry}
use Rattle.sf_heap.specs.Checked.Entries.{found, map_of}
use Rattle.sf_heap.specs.Checked.Moves.{AreApart, IsMerge}
use Rattle.sf_heap.proofs.Entries.{get-map_of}

-- nothing is apart from anything
pub Apart-none : {X : Type 0} (x : Option X) → Apart x None
Apart-none None = tt
Apart-none (Some x) = tt

-- what is apart from one of two or the other is apart from the one
pub Apart-front : {X : Type 0} (x y z : Option X) → Apart (option_or x y) z → Apart x z
Apart-front None y z h = tt
Apart-front (Some x) y z h = h

pub Apart-front_right : {X : Type 0} (z x y : Option X) → Apart z (option_or x y) → Apart z x
Apart-front_right None x y h = tt
Apart-front_right (Some z) None y h = tt
Apart-front_right (Some z) (Some x) y h = h

-- two that are there aren't apart
pub Apart-both : {X : Type 0} (x y : Option X) (v w : X) → Apart (option_or x (Some v)) (option_or y (Some w)) → ⊥
Apart-both None None v w h = h
Apart-both None (Some y) v w h = h
Apart-both (Some x) None v w h = h
Apart-both (Some x) (Some y) v w h = h

-- apart, seen through f
pub Apart-map : {X Y : Type 0} (f : X → Y) (x y : Option X) → Apart x y → Apart (option_map f x) (option_map f y)
Apart-map f None y h = tt
Apart-map f (Some x) None h = tt
Apart-map f (Some x) (Some y) h = h

option_or-map : {X Y : Type 0} (f : X → Y) (x y : Option X) → option_map f (option_or x y) ≡ option_or (option_map f x) (option_map f y)
option_or-map f None y = refl
option_or-map f (Some x) y = refl

-- what splits as finite maps splits as heaps
pub Splits-heap_of : (whole left right : Cells) → Splits (get whole) (get left) (get right)
    → Splits (heap_of whole) (heap_of left) (heap_of right)
Splits-heap_of whole left right s = record {
  apart = λ q. Apart-map cell_of (get left q) (get right q) (s.apart q);
  is = λ q. ap (option_map cell_of) (s.is q) ∙ option_or-map cell_of (get left q) (get right q);
}

-- what is found in two lists, one after the other
pub found-append : (q : ℕ) (xs ys : List Entry) → found q (xs ++ ys) ≡ option_or (found q xs) (found q ys)
found-append q [] ys = refl
found-append q (e ∷ xs) ys = elim (eq_by_cmp nat_cmp q e.at) as (λ b. cond b (Some e.cell) (found q (xs ++ ys))
    ≡ option_or (cond b (Some e.cell) (found q xs)) (found q ys)) [ true ↦ refl | false ↦ found-append q xs ys ]

-- apart the other way round
Apart-swap : {X : Type 0} (x y : Option X) → Apart x y → Apart y x
Apart-swap None None h = tt
Apart-swap None (Some y) h = tt
Apart-swap (Some x) None h = tt
Apart-swap (Some x) (Some y) h = h

or-swap : {X : Type 0} (x y : Option X) → Apart x y → option_or x y ≡ option_or y x
or-swap None None h = refl
or-swap None (Some y) h = refl
or-swap (Some x) None h = refl
or-swap (Some x) (Some y) h = absurd h

pub AreApart-swap : (xs ys : List Entry) → AreApart xs ys → AreApart ys xs
AreApart-swap xs ys h q = Apart-swap (found q xs) (found q ys) (h q)

-- a merge the other way round
pub IsMerge-swap : (xs ys all : List Entry) → AreApart xs ys → IsMerge ys xs all → IsMerge xs ys all
IsMerge-swap xs ys all apart m = record {
  rises = m.rises;
  all_found = λ q. m.all_found q ∙ found-append q ys xs ∙ sym (or-swap (found q xs) (found q ys) (apart q))
      ∙ sym (found-append q xs ys);
  sizes = omega (arith, m.sizes);
}

-- entries of maps that are disjoint are apart
pub AreApart-from_maps : (left right : List Entry) (m n : Cells) → map_of left ≡ m → map_of right ≡ n → AreDisjoint m n
    → AreApart left right
AreApart-from_maps left right m n e f disjoint q =
    subst (λ o. Apart o (found q right)) (ap (λ l. get l q) (sym e) ∙ get-map_of left q)
    (subst (Apart (get m q)) (ap (λ l. get l q) (sym f) ∙ get-map_of right q) (disjoint q))

-- what two lists are merged into is the union of their maps
pub Splits-merge : (left right all : List Entry) (m n : Cells) → map_of left ≡ m → map_of right ≡ n → AreDisjoint m n
    → IsMerge left right all → Splits (get (map_of all)) (get m) (get n)
Splits-merge left right all m n e f disjoint merge = record {
  apart = disjoint;
  is = λ q. get-map_of all q ∙ merge.all_found q ∙ found-append q left right
      ∙ ap (λ o. option_or o (found q right)) (sym (get-map_of left q) ∙ ap (λ l. get l q) e)
      ∙ ap (option_or (get m q)) (sym (get-map_of right q) ∙ ap (λ l. get l q) f);
}
