-- A walk's locations make up the heap of what is walked, where none comes twice; and the other way round.
-- Names: `seg-LAW` for segments; `part-LAW` for parts of heaps.
use Rattle.std.proofs.Common.{◌≡◌, ◌≢◌, ◌==◌, ◌||◌, ◌⊎◌, ℕ, Bool, true, false, cond, List, [], ◌∷◌, Option, Some, None, refl, sym, ap, ◌∙◌, subst, subst₂, inl, inr, arith}
use Rattle.std.specs.FinMap.{get}
use Rattle.std.specs.List.{list_any}
use Rattle.std.specs.Option.{option_map, option_or}
use Rattle.std.proofs.lemmas.Bool.{cases_eq}
use Rattle.std.proofs.lemmas.Bool.Decides.{nat_tests}
use Rattle.std.proofs.lemmas.Option.{none-some}
use Rattle.sf_base.specs.declared.ids.FieldId.{FieldId}
use Rattle.sf_base.specs.declared.value.Value.{Value}
use Rattle.sf_base.specs.HeapStore.{Apart, Cell, Heap, IsOne, Splits}
use Rattle.sf_core.specs.Assertions.Sat.{Dseg, empty as dseg_empty, linked as dseg_linked, Seg, end as seg_end, cell as seg_cell}
use Rattle.sf_base.proofs.HeapSplits.{one-in, one-is, one-single, put-elsewhere, put-here, single}
use Rattle.sf_base.proofs.MapSplits.{empty_map, map-same, splits-has_left, splits-lacks_right, splits-comm, splits-assoc_right, splits-same_whole}
use Rattle.sf_base.proofs.Options.{option_map-some}
use Rattle.sf_heap.specs.Cells.{Cells, cell_of, heap_of}
use Rattle.sf_foot.specs.Checked.Places.{part_at}
use Rattle.sf_foot.specs.Checked.Walks.{DoubleWalk, empty, linked, SegmentWalk, end, cell}

-- no number comes twice
abbrev pub Distinct : List ℕ → Type 0
Distinct [] = Unit {0}
Distinct (l ∷ ls) = (list_any (λ m. l == m) ls ≡ false) × Distinct ls

-- nothing is apart from anything
apart_none : {X : Type 0} (x : Option X) → Apart x None
apart_none None = tt
apart_none (Some x) = tt

eq-same : (q l : ℕ) → q ≡ l → (q == l) ≡ true
eq-same q l e = grind (arith, nat_tests)

eq-other : (q l : ℕ) → q ≢ l → (q == l) ≡ false
eq-other q l e = grind (arith, nat_tests)

-- the cell at the first of several locations, and the part at the others
pub part-splits : (heap : Heap) (l : ℕ) (ls : List ℕ) (here : Cell) → heap l ≡ Some here
    → list_any (λ m. l == m) ls ≡ false → Splits (part_at (l ∷ ls) heap) (single l here) (part_at ls heap)
part-splits heap l ls here there new = record { apart = λ q. apart q (cases_eq q l); is = λ q. is q (cases_eq q l) }
  where
    apart : (q : ℕ) → (q ≡ l) ⊎ (q ≢ l) → Apart (single l here q) (part_at ls heap q)
    apart q (inl same) = subst (Apart (single l here q)) (sym (ap (λ k. part_at ls heap k) same ∙ ap (λ b. cond b (heap l) None) new)) (apart_none (single l here q))
    apart q (inr other) = subst (λ o. Apart o (part_at ls heap q)) (sym (put-elsewhere l q (Some here) empty_map other)) tt

    is : (q : ℕ) → (q ≡ l) ⊎ (q ≢ l) → part_at (l ∷ ls) heap q ≡ option_or (single l here q) (part_at ls heap q)
    is q (inl same) = ap (λ b. cond (b || list_any (λ m. q == m) ls) (heap q) None) (eq-same q l same)
        ∙ ap heap same ∙ there
        ∙ sym (ap (λ o. option_or o (part_at ls heap q)) (ap (single l here) same ∙ put-here l (Some here) empty_map))
    is q (inr other) = ap (λ b. cond (b || list_any (λ m. q == m) ls) (heap q) None) (eq-other q l other)
        ∙ sym (ap (λ o. option_or o (part_at ls heap q)) (put-elsewhere l q (Some here) empty_map other))

-- a walk whose locations differ is a segment on their part of the heap
pub seg-from_walk : (heap : Cells) (next : FieldId) (to from : Value) (ls : List ℕ) → SegmentWalk heap next to from ls
    → Distinct ls → Seg next to from (part_at ls (heap_of heap))
seg-from_walk heap next to from ls (end e n) d =
    seg_end e (record { none = λ q. ap (λ l. part_at l (heap_of heap) q) n })
seg-from_walk heap next to from ls (cell o a here rest p g w e) d =
    let differ = subst Distinct e d in
    let there : heap_of heap a ≡ Some (cell_of here) = ap (option_map cell_of) g in
    let behind = seg-from_walk heap next to _ rest w differ.1 in
    subst (λ l. Seg next to from (part_at l (heap_of heap))) (sym e)
    (seg_cell o a (cell_of here) (single a (cell_of here)) (part_at rest (heap_of heap)) p (one-single a (cell_of here))
    (part-splits (heap_of heap) a rest (cell_of here) there differ.0) behind)

-- so is one that leads back, a doubly linked segment
pub dseg-from_walk : (heap : Cells) (next back : FieldId) (last to before from : Value) (ls : List ℕ)
    → DoubleWalk heap next back last to before from ls → Distinct ls
    → Dseg next back last to before from (part_at ls (heap_of heap))
dseg-from_walk heap next back last to before from ls (empty e b n) d =
    dseg_empty e b (record { none = λ q. ap (λ l. part_at l (heap_of heap) q) n })
dseg-from_walk heap next back last to before from ls (linked o a here rest p g k w e) d =
    let differ = subst Distinct e d in
    let there : heap_of heap a ≡ Some (cell_of here) = ap (option_map cell_of) g in
    let behind = dseg-from_walk heap next back last to from _ rest w differ.1 in
    subst (λ l. Dseg next back last to before from (part_at l (heap_of heap))) (sym e)
    (dseg_linked o a (cell_of here) (single a (cell_of here)) (part_at rest (heap_of heap)) p (one-single a (cell_of here))
    (part-splits (heap_of heap) a rest (cell_of here) there differ.0) k behind)

-- the locations of a walk, whose part the heap is
pub record IsWalked (walk : List ℕ → Type 0) (heap part : Heap) : Type 0 where
  pub locations : List ℕ
  pub walked : walk locations
  pub distinct : Distinct locations
  pub is : part ≡ part_at locations heap

-- a location that the part lacks is none of its own
new_there : (heap : Heap) (a : ℕ) (ls : List ℕ) (here : Cell) → heap a ≡ Some here → part_at ls heap a ≡ None
    → list_any (λ m. a == m) ls ≡ false
new_there heap a ls here there none = step (list_any (λ m. a == m) ls) none
  where
    step : (b : Bool) → cond b (heap a) None ≡ None → b ≡ false
    step true e = absurd (none-some here (sym e ∙ there))
    step false e = refl

-- a cell more in front of a walk whose part the others are
pub part-more : (heap : Heap) (a : ℕ) (ls : List ℕ) (here : Cell) (part one others : Heap) → heap a ≡ Some here
    → IsOne a here one → Splits part one others → others ≡ part_at ls heap
    → (list_any (λ m. a == m) ls ≡ false) × (part ≡ part_at (a ∷ ls) heap)
part-more heap a ls here part one others there o s is =
    let new = new_there heap a ls here there (ap (λ h. h a) (sym is) ∙ splits-lacks_right a here s o.here) in
    (new, splits-same_whole (subst₂ (Splits part) (one-is o) is s) (part-splits heap a ls here there new))

-- a segment on a part of the heap is walked
pub walk-from_seg : (heap : Cells) (next : FieldId) (to from : Value) (part rest : Heap) → Splits (heap_of heap) part rest
    → Seg next to from part → IsWalked (SegmentWalk heap next to from) (heap_of heap) part
walk-from_seg heap next to from part rest s (seg_end e n) = record {
  locations = [];
  walked = end e refl;
  distinct = tt;
  is = map-same part (part_at [] (heap_of heap)) (λ q. n.none q);
}
walk-from_seg heap next to from part rest s (seg_cell o a here one others p u t d) =
    let inside = splits-assoc_right (splits-comm t) s in
    let behind = walk-from_seg heap next to _ others _ inside.1 d in
    let there : heap_of heap a ≡ Some here = splits-has_left a here s (one-in u t) in
    let fields = option_map-some cell_of (get heap a) here there in
    let more = part-more (heap_of heap) a behind.locations here part one others there u t behind.is in
    record {
      locations = a ∷ behind.locations;
      walked = cell o a fields.0 behind.locations p fields.1
          (subst (λ v. SegmentWalk heap next to v behind.locations) (ap (λ c. c next.0) fields.2) behind.walked) refl;
      distinct = (more.0, behind.distinct);
      is = more.1;
    }

-- so is a doubly linked one
pub walk-from_dseg : (heap : Cells) (next back : FieldId) (last to before from : Value) (part rest : Heap)
    → Splits (heap_of heap) part rest → Dseg next back last to before from part
    → IsWalked (DoubleWalk heap next back last to before from) (heap_of heap) part
walk-from_dseg heap next back last to before from part rest s (dseg_empty e b n) = record {
  locations = [];
  walked = empty e b refl;
  distinct = tt;
  is = map-same part (part_at [] (heap_of heap)) (λ q. n.none q);
}
walk-from_dseg heap next back last to before from part rest s (dseg_linked o a here one others p u t k d) =
    let inside = splits-assoc_right (splits-comm t) s in
    let behind = walk-from_dseg heap next back last to from _ others _ inside.1 d in
    let there : heap_of heap a ≡ Some here = splits-has_left a here s (one-in u t) in
    let fields = option_map-some cell_of (get heap a) here there in
    let more = part-more (heap_of heap) a behind.locations here part one others there u t behind.is in
    record {
      locations = a ∷ behind.locations;
      walked = linked o a fields.0 behind.locations p fields.1 (ap (λ c. c back.0) (sym fields.2) ∙ k)
          (subst (λ v. DoubleWalk heap next back last to from v behind.locations) (ap (λ c. c next.0) fields.2)
          behind.walked) refl;
      distinct = (more.0, behind.distinct);
      is = more.1;
    }
