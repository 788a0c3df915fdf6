-- Locations that differ and that an assertion takes are those of the part of the heap that satisfies it.
-- Names: `have-LAW`, `sat-from_WHAT` from locations to heaps, `WHAT-from_sat` back.
use Rattle.std.proofs.Common.{◌≡◌, ℕ, List, [], ◌∷◌, ◌++◌, Some, is_some, refl, sym, ap, ◌∙◌, subst}
use Rattle.std.specs.FinMap.{get}
use Rattle.std.specs.Option.{option_map}
use Rattle.sf_base.proofs.Sums.{either}
use Rattle.sf_base.specs.declared.ids.FieldId.{FieldId}
use Rattle.sf_base.specs.declared.place.Place.{Place}
use Rattle.sf_base.specs.declared.value.Value.{Value}
use Rattle.sf_base.specs.HeapStore.{Heap, IsEmpty, IsOne, Splits}
use Rattle.sf_base.proofs.HeapSplits.{one-in, one-is, one-single}
use Rattle.sf_base.proofs.MapSplits.{map-same, splits-comm, splits-assoc_right, splits-of_empty_right}
use Rattle.sf_base.proofs.Options.{option_map-some}
use Rattle.sf_core.specs.declared.assertion.Operand.{Operand}
use Rattle.sf_core.specs.declared.assertion.Test.{Test}
use Rattle.sf_core.specs.Assertions.Sat.{HasFields, IsTrueOf, Sat, SatAll, SatOne, Tree, operand}
use Rattle.sf_core.specs.Program.Syntax.{Conjunct, holds, points, segment, doubly, tree, choose, Level, level, Conjuncts, none, also}
use Rattle.sf_heap.specs.Cells.{Cells, FieldValues, cell_of, heap_of}
use Rattle.sf_foot.specs.Checked.Places.{part_at}
use Rattle.sf_foot.specs.Checked.Taking.{AllTake, LevelTakes, OneTakes}
use Rattle.sf_foot.specs.Checked.Walks.{TreesWalk}
use Rattle.sf_foot.proofs.Parts.{Distinct, IsWalked, dseg-from_walk, part-splits, seg-from_walk, walk-from_dseg, walk-from_seg}
use Rattle.sf_foot.proofs.Pigeons.{AllHave, have-append, have-double, have-segment, have-trees}
use Rattle.sf_foot.proofs.Sums.{distinct-left, distinct-right, part-append, part-both}
use Rattle.sf_foot.proofs.Trees.{trees-from_walk, walk-from_one_tree}
use Rattle.sf_core.proofs.Assertions.Sat.{test-which}

-- the part at no location is empty
nothing_at : (heap : Heap) → IsEmpty (part_at [] heap)
nothing_at heap = record { none = λ q. refl }

module _ {E : Type 0} (heap : Cells) (val : E → Value) where
  -- each location that is taken has a cell
  mutual
    pub have-level : (a : Level E) (some : ℕ → Value) (ls : List ℕ) → LevelTakes heap a val some ls → AllHave heap ls
    have-level (level made cs) some ls t = have-all cs t.0 ls t.2

    pub have-all : (cs : Conjuncts E) (some : ℕ → Value) (ls : List ℕ) → AllTake heap cs val some ls → AllHave heap ls
    have-all none some ls t = subst (AllHave heap) (sym t) tt
    have-all (also c cs) some ls t = subst (AllHave heap) (sym t.2)
        (have-append heap t.0 t.1 (have-one c some t.0 t.3) (have-all cs some t.1 t.4))

    have-one : (c : Conjunct E) (some : ℕ → Value) (ls : List ℕ) → OneTakes heap c val some ls → AllHave heap ls
    have-one (holds p t) some ls k = subst (AllHave heap) (sym k.0) tt
    have-one (points p x fs) some ls k = subst (AllHave heap) (sym k.5) (ap is_some k.3, tt)
    have-one (segment p next x y) some ls k = have-segment heap next _ _ ls k
    have-one (doubly p next back x b l y) some ls k = have-double heap next back _ _ _ _ ls k
    have-one (tree p left right x) some ls k = have-trees heap left right _ ls k
    have-one (choose p t this that) some ls k = either (test-which (operand val some) t)
        (λ i. have-level this some ls (k.0 i)) (λ n. have-level that some ls (k.1 n))

  one_at : (l : ℕ) (here : FieldValues) → get heap l ≡ Some here
      → IsOne l (cell_of here) (part_at (l ∷ []) (heap_of heap))
  one_at l here there = subst (IsOne l (cell_of here))
      (sym (splits-of_empty_right (nothing_at (heap_of heap))
      (part-splits (heap_of heap) l [] (cell_of here) (ap (option_map cell_of) there) refl)))
      (one-single l (cell_of here))

  tree_of : (left right : FieldId) (v : Value) (ls : List ℕ) → TreesWalk heap left right (v ∷ []) ls → Distinct ls
      → Tree left right v (part_at ls (heap_of heap))
  tree_of left right v ls w d =
      let both = trees-from_walk heap left right (v ∷ []) ls w d in
      subst (Tree left right v) (sym (splits-of_empty_right both.second both.splits)) both.first

  -- the part at locations that are taken satisfies
  mutual
    pub sat-from_level : (a : Level E) (some : ℕ → Value) (ls : List ℕ) → LevelTakes heap a val some ls → Distinct ls
        → Sat a val some (part_at ls (heap_of heap))
    sat-from_level (level made cs) some ls t d = (t.0, t.1, sat-from_all cs t.0 ls t.2 d)

    pub sat-from_all : (cs : Conjuncts E) (some : ℕ → Value) (ls : List ℕ) → AllTake heap cs val some ls → Distinct ls
        → SatAll cs val some (part_at ls (heap_of heap))
    sat-from_all none some ls t d = subst (λ ks. IsEmpty (part_at ks (heap_of heap))) (sym t) (nothing_at (heap_of heap))
    sat-from_all (also c cs) some ls t d =
        let differ = subst Distinct t.2 d in
        subst (λ ks. SatAll (also c cs) val some (part_at ks (heap_of heap))) (sym t.2) (record {
          left = part_at t.0 (heap_of heap);
          right = part_at t.1 (heap_of heap);
          splits = part-append (heap_of heap) t.0 t.1 differ;
          first = sat-from_one c some t.0 t.3 (distinct-left t.0 t.1 differ);
          second = sat-from_all cs some t.1 t.4 (distinct-right t.0 t.1 differ);
        })

    sat-from_one : (c : Conjunct E) (some : ℕ → Value) (ls : List ℕ) → OneTakes heap c val some ls → Distinct ls
        → SatOne c val some (part_at ls (heap_of heap))
    sat-from_one (holds p t) some ls k d =
        (subst (λ ks. IsEmpty (part_at ks (heap_of heap))) (sym k.0) (nothing_at (heap_of heap)), k.1)
    sat-from_one (points p x fs) some ls k d = (
      k.0,
      cell_of k.1,
      k.2,
      subst (λ ks. IsOne k.0 (cell_of k.1) (part_at ks (heap_of heap))) (sym k.5) (one_at k.0 k.1 k.3),
      k.4,
    )
    sat-from_one (segment p next x y) some ls k d = seg-from_walk heap next _ _ ls k d
    sat-from_one (doubly p next back x b l y) some ls k d = dseg-from_walk heap next back _ _ _ _ ls k d
    sat-from_one (tree p left right x) some ls k d = tree_of left right _ ls k d
    sat-from_one (choose p t this that) some ls k d =
        (λ i. sat-from_level this some ls (k.0 i) d, λ n. sat-from_level that some ls (k.1 n) d)

  -- a choice is walked as its branch is
  walked-this : (p : Place) (t : Test (Operand E)) (this that : Level E) (some : ℕ → Value) (part : Heap)
      → IsTrueOf (operand val some) t → IsWalked (LevelTakes heap this val some) (heap_of heap) part
      → IsWalked (OneTakes heap (choose p t this that) val some) (heap_of heap) part
  walked-this p t this that some part i w = record {
    locations = w.locations;
    walked = (λ j. w.walked, λ n. absurd (n i));
    distinct = w.distinct;
    is = w.is;
  }

  walked-that : (p : Place) (t : Test (Operand E)) (this that : Level E) (some : ℕ → Value) (part : Heap)
      → (IsTrueOf (operand val some) t → ⊥) → IsWalked (LevelTakes heap that val some) (heap_of heap) part
      → IsWalked (OneTakes heap (choose p t this that) val some) (heap_of heap) part
  walked-that p t this that some part n w = record {
    locations = w.locations;
    walked = (λ i. absurd (n i), λ m. w.walked);
    distinct = w.distinct;
    is = w.is;
  }

  -- the locations of a part that satisfies are taken
  mutual
    pub level-from_sat : (a : Level E) (some : ℕ → Value) (part rest : Heap) → Splits (heap_of heap) part rest
        → Sat a val some part → IsWalked (LevelTakes heap a val some) (heap_of heap) part
    level-from_sat (level made cs) some part rest s t =
        let all = all-from_sat cs t.0 part rest s t.2 in record {
          locations = all.locations;
          walked = (t.0, t.1, all.walked);
          distinct = all.distinct;
          is = all.is;
        }

    pub all-from_sat : (cs : Conjuncts E) (some : ℕ → Value) (part rest : Heap) → Splits (heap_of heap) part rest
        → SatAll cs val some part → IsWalked (AllTake heap cs val some) (heap_of heap) part
    all-from_sat none some part rest s t = record {
      locations = [];
      walked = refl;
      distinct = tt;
      is = map-same part (part_at [] (heap_of heap)) (λ q. t.none q);
    }
    all-from_sat (also c cs) some part rest s t =
        let first = splits-assoc_right t.splits s in
        let second = splits-assoc_right (splits-comm t.splits) s in
        let one = one-from_sat c some t.left _ first.1 t.first in
        let others = all-from_sat cs some t.right _ second.1 t.second in
        let both = part-both heap one.locations others.locations part t.left t.right t.splits
        (have-one c some one.locations one.walked) one.distinct others.distinct one.is others.is in
        record {
          locations = one.locations ++ others.locations;
          walked = (one.locations, others.locations, refl, one.walked, others.walked);
          distinct = both.0;
          is = both.1;
        }

    one-from_sat : (c : Conjunct E) (some : ℕ → Value) (part rest : Heap) → Splits (heap_of heap) part rest
        → SatOne c val some part → IsWalked (OneTakes heap c val some) (heap_of heap) part
    one-from_sat (holds p t) some part rest s k = record {
      locations = [];
      walked = (refl, k.1);
      distinct = tt;
      is = map-same part (part_at [] (heap_of heap)) (λ q. k.0.none q);
    }
    one-from_sat (points p x fs) some part rest s k =
        let there : heap_of heap k.0 ≡ Some k.1 = one-in k.3 s in
        let fields = option_map-some cell_of (get heap k.0) k.1 there in record {
          locations = k.0 ∷ [];
          walked = (k.0, fields.0, k.2, fields.1, subst (HasFields (operand val some) fs) fields.2 k.4, refl);
          distinct = (refl, tt);
          is = one-is k.3 ∙ sym (one-is (subst (λ c. IsOne k.0 c (part_at (k.0 ∷ []) (heap_of heap))) (sym fields.2)
              (one_at k.0 fields.0 fields.1)));
        }
    one-from_sat (segment p next x y) some part rest s k = walk-from_seg heap next _ _ part rest s k
    one-from_sat (doubly p next back x b l y) some part rest s k =
        walk-from_dseg heap next back _ _ _ _ part rest s k
    one-from_sat (tree p left right x) some part rest s k = walk-from_one_tree heap left right _ part rest s k
    one-from_sat (choose p t this that) some part rest s k = either (test-which (operand val some) t)
        (λ i. walked-this p t this that some part i (level-from_sat this some part rest s (k.0 i)))
        (λ n. walked-that p t this that some part n (level-from_sat that some part rest s (k.1 n)))
