-- Walks through trees, and the heaps of these trees.
-- Names: `trees-LAW`.
use Rattle.std.proofs.Common.{◌≡◌, ℕ, List, [], ◌∷◌, Some, refl, sym, ap, ◌∙◌, subst, subst₂}
use Rattle.std.specs.FinMap.{get}
use Rattle.std.specs.Option.{option_map}
use Rattle.sf_base.specs.declared.ids.FieldId.{FieldId}
use Rattle.sf_base.specs.declared.value.Value.{Value}
use Rattle.sf_base.specs.HeapStore.{Cell, Heap, IsEmpty, Splits, ◌⋆◌}
use Rattle.sf_core.specs.Assertions.Sat.{Tree, leaf as tree_leaf, node as tree_node}
use Rattle.sf_base.proofs.HeapSplits.{one-in, one-single, single}
use Rattle.sf_base.proofs.MapSplits.{empty_map, map-same, splits-comm, splits-assoc_left, splits-assoc_right, splits-empty_left, splits-empty_right, splits-has_left, splits-of_empty_left, union}
use Rattle.sf_base.proofs.Options.{option_map-some}
use Rattle.sf_heap.specs.Cells.{Cells, cell_of, heap_of}
use Rattle.sf_foot.specs.Checked.Places.{part_at}
use Rattle.sf_foot.specs.Checked.Walks.{TreesWalk, none, leaf, node}
use Rattle.sf_foot.proofs.Parts.{Distinct, IsWalked, part-more, part-splits}

-- one tree for each root, and all these disjoint
abbrev pub Trees : (left right : FieldId) → List Value → Heap → Type 0
Trees left right [] heap = IsEmpty heap
Trees left right (v ∷ vs) heap = (Tree left right v ⋆ Trees left right vs) heap

-- a walk whose locations differ is trees on their part of the heap
pub trees-from_walk : (heap : Cells) (left right : FieldId) (roots : List Value) (ls : List ℕ) → TreesWalk heap left right roots ls
    → Distinct ls → Trees left right roots (part_at ls (heap_of heap))
trees-from_walk heap left right roots ls (none e n) d =
    subst (λ r. Trees left right r (part_at ls (heap_of heap))) (sym e) (record { none = λ q. ap (λ l. part_at l (heap_of heap) q) n })
trees-from_walk heap left right roots ls (leaf others e walk) d =
    subst (λ r. Trees left right r (part_at ls (heap_of heap))) (sym e) (record {
      left = empty_map;
      right = part_at ls (heap_of heap);
      splits = splits-empty_left (record { none = λ q. refl });
      first = tree_leaf refl (record { none = λ q. refl });
      second = trees-from_walk heap left right others ls walk d;
    })
trees-from_walk heap left right roots ls (node a others here rest e g walk n) d =
    let differ = subst Distinct n d in
    let there : heap_of heap a ≡ Some (cell_of here) = ap (option_map cell_of) g in
    let behind = trees-from_walk heap left right _ rest walk differ.1 in
    let top = part-splits (heap_of heap) a rest (cell_of here) there differ.0 in
    let below = splits-assoc_left behind.second.splits behind.splits in
    let whole = splits-assoc_left below.1 top in
    subst₂ (λ r l. Trees left right r (part_at l (heap_of heap))) (sym e) (sym n) (record {
      left = union (single a (cell_of here)) (union behind.left behind.second.left);
      right = behind.second.right;
      splits = whole.1;
      first = tree_node a (cell_of here) (single a (cell_of here)) (union behind.left behind.second.left) behind.left behind.second.left
          refl (one-single a (cell_of here)) whole.0 below.0 behind.first behind.second.first;
      second = behind.second.second;
    })

-- the right part of a part, as a part of the whole heap
inside : {heap whole left right rest : Heap} → Splits whole left right → Splits heap whole rest
    → Splits heap right (union left rest)
inside i j = (splits-assoc_right (splits-comm i) j).1

-- a tree in front of trees that are walked is walked with them
walk-from_tree : (heap : Cells) (left right : FieldId) (v : Value) (one : Heap) → Tree left right v one
    → (others : List Value) (part two rest : Heap) → Splits part one two → Splits (heap_of heap) part rest
    → IsWalked (TreesWalk heap left right others) (heap_of heap) two
    → IsWalked (TreesWalk heap left right (v ∷ others)) (heap_of heap) part
walk-from_tree heap left right v one (tree_leaf e m) others part two rest s s0 w = record {
  locations = w.locations;
  walked = leaf others (ap (λ x. x ∷ others) e) w.walked;
  distinct = w.distinct;
  is = splits-of_empty_left m s ∙ w.is;
}
walk-from_tree heap left right v one (tree_node a here cell below first second e o s1 s2 t1 t2) others part two rest s s0 w =
    let top = splits-assoc_right s1 s in
    let under = splits-assoc_right s2 top.0 in
    let in_heap = inside top.1 s0 in
    let right_walk = walk-from_tree heap left right (here right.0) second t2 others (union second two) two _ under.0 (inside under.1 in_heap) w in
    let walk = walk-from_tree heap left right (here left.0) first t1 (here right.0 ∷ others) (union below two) (union second two) _ under.1 in_heap right_walk in
    let there : heap_of heap a ≡ Some here = splits-has_left a here s0 (one-in o top.1) in
    let fields = option_map-some cell_of (get heap a) here there in
    let more = part-more (heap_of heap) a walk.locations here part cell (union below two) there o top.1 walk.is in
    record {
      locations = a ∷ walk.locations;
      walked = node a others fields.0 walk.locations (ap (λ x. x ∷ others) e) fields.1
          (subst (λ (c : Cell). TreesWalk heap left right (c left.0 ∷ c right.0 ∷ others) walk.locations) fields.2 walk.walked) refl;
      distinct = (more.0, walk.distinct);
      is = more.1;
    }

-- a tree on a part of the heap is walked
pub walk-from_one_tree : (heap : Cells) (left right : FieldId) (root : Value) (part rest : Heap) → Splits (heap_of heap) part rest
    → Tree left right root part → IsWalked (TreesWalk heap left right (root ∷ [])) (heap_of heap) part
walk-from_one_tree heap left right root part rest s t =
    walk-from_tree heap left right root part t [] part empty_map rest (splits-empty_right (record { none = λ q. refl })) s
    (record { locations = []; walked = none refl refl; distinct = tt; is = map-same empty_map (part_at [] (heap_of heap)) (λ q. refl) })
