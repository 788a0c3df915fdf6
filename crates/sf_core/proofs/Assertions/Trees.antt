-- Binary trees: precise, finite, without cycles, without sharing.
-- Names: `tree-LAW` speaks of `Tree left right root heap`, `reaches-LAW` of the paths of a heap.
use Rattle.std.specs.Prelude.{◌≡◌, ◌≢◌, ℕ, Some, None, ◌⊎◌}
use Rattle.std.proofs.Common.{sym, ap, ◌∙◌, refl, subst, subst₂, inl, inr}
use Rattle.std.proofs.lemmas.Option.{none-some, same_Some}
use Rattle.std.proofs.lemmas.Bool.{cases_eq}
use Rattle.sf_base.specs.declared.ids.FieldId.{FieldId}
use Rattle.sf_base.specs.declared.value.Value.{Value}
use Rattle.sf_base.specs.declared.value.Value.TheVariants.{Nil as nil, Loc as loc}
use Rattle.sf_core.proofs.Assertions.Finite.{finite-empty, finite-one, finite-splits}
use Rattle.sf_base.proofs.HeapSplits.{one-in, one-same}
use Rattle.sf_base.proofs.MapSplits.{splits-comm, splits-assoc_right, splits-lacks_both, splits-lacks_right, splits-same_whole, splits-which, splits-has_left, empty-same, IsPart, part-has, part-left, part-right, part-trans}
use Rattle.sf_core.proofs.Assertions.Segments.{loc-same, nil-not_loc}
use Rattle.sf_base.specs.HeapStore.{Cell, Heap, IsEmpty, IsOne, Splits}
use Rattle.sf_core.specs.Checked.Assertions.Precise.{IsPrecise}
use Rattle.sf_core.specs.Assertions.Sat.{Tree, leaf, node}
use Rattle.sf_core.specs.Checked.Assertions.Shape.{IsAcyclic, IsFinite, IsUnshared, Reaches, step, further, Points}

-- trees from one value in one heap are the same
pub tree-same : {left right : FieldId} {root also : Value} {heap one two other another : Heap}
    → Tree left right root one → Tree left right also two → root ≡ also → Splits heap one other
    → Splits heap two another → one ≡ two
tree-same (leaf e m) (leaf f n) i s t = empty-same m n
tree-same (leaf e m) (node a c g r x y p o u v d f) i s t = absurd (nil-not_loc a (sym e ∙ i ∙ p))
tree-same (node a c g r x y p o u v d f) (leaf e m) i s t = absurd (nil-not_loc a (sym e ∙ sym i ∙ p))
tree-same {left} {right} {heap = heap} {one = one} {two = two} (node a c g r x y p o u v d f)
    (node a2 c2 g2 r2 x2 y2 p2 o2 u2 v2 d2 f2) i s t =
    let place : a ≡ a2 = loc-same a a2 (sym p ∙ i ∙ p2) in
    let here : heap a ≡ Some c = splits-has_left a c s (one-in o u) in
    let there : heap a2 ≡ Some c2 = splits-has_left a2 c2 t (one-in o2 u2) in
    let same : c ≡ c2 = same_Some c c2 (sym here ∙ ap heap place ∙ there) in
    let cells : g ≡ g2 = one-same o (subst₂ (λ k l. IsOne k l g2) (sym place) (sym same) o2) in
    let w = (splits-assoc_right (splits-comm u) s).1 in
    let w2 = (splits-assoc_right (splits-comm u2) t).1 in
    let firsts : x ≡ x2 = tree-same d d2 (ap (λ k. k left.0) same) (splits-assoc_right v w).1
    (splits-assoc_right v2 w2).1 in
    let seconds : y ≡ y2 = tree-same f f2 (ap (λ k. k right.0) same) (splits-assoc_right (splits-comm v) w).1
    (splits-assoc_right (splits-comm v2) w2).1 in
    let rests : r ≡ r2 = splits-same_whole (subst₂ (Splits r) firsts seconds v) v2 in
    splits-same_whole (subst₂ (Splits one) cells rests u) u2

-- a tree is precise
pub tree-precise : (left right : FieldId) (root : Value) → IsPrecise (Tree left right root)
tree-precise left right root h g k r q s t d e = tree-same d e refl s t

-- a tree is finite
pub tree-finite : {left right : FieldId} {root : Value} {heap : Heap} → Tree left right root heap
    → IsFinite heap
tree-finite (leaf e m) = finite-empty m
tree-finite (node a c g r x y p o u v d f) =
    finite-splits u (finite-one o) (finite-splits v (tree-finite d) (tree-finite f))

-- a tree from nil is empty
pub tree-from_nil : {left right : FieldId} {root : Value} {heap : Heap} → root ≡ nil
    → Tree left right root heap → IsEmpty heap
tree-from_nil i (leaf e m) = m
tree-from_nil i (node a c g r x y p o u v d f) = absurd (nil-not_loc a (sym i ∙ p))

-- the cell at the root of a tree, and the two trees below it
pub record Root (left right : FieldId) (root : Value) (heap : Heap) : Type 0 where
  pub location : ℕ
  pub here : Cell
  pub one : Heap
  pub rest : Heap
  pub first : Heap
  pub second : Heap
  pub is : root ≡ loc location
  pub cell : IsOne location here one
  pub splits : Splits heap one rest
  pub apart : Splits rest first second
  pub first_tree : Tree left right (here left.0) first
  pub second_tree : Tree left right (here right.0) second

-- a tree from another value than nil has a cell at its root
pub tree-root : {left right : FieldId} {root : Value} {heap : Heap} → root ≢ nil → Tree left right root heap
    → Root left right root heap
tree-root i (leaf e m) = absurd (i e)
tree-root i (node a c g r x y p o u v d f) =
    record {
      location = a;
      here = c;
      one = g;
      rest = r;
      first = x;
      second = y;
      is = p;
      cell = o;
      splits = u;
      apart = v;
      first_tree = d;
      second_tree = f;
    }

-- the heap has a cell there
abbrev pub Has : Heap → ℕ → Type 0
Has heap location = (cell : Cell) × (heap location ≡ Some cell)

-- a tree has a cell at its root, if that is a location
pub tree-has_root : {left right : FieldId} {root : Value} {heap : Heap} (location : ℕ) → root ≡ loc location
    → Tree left right root heap → Has heap location
tree-has_root {heap = heap} a i (leaf e m) = absurd (nil-not_loc a (sym e ∙ i))
tree-has_root {heap = heap} a i (node b c g r x y p o u v d f) =
    (c, ap heap (loc-same a b (sym i ∙ p)) ∙ one-in o u)

-- what a part points to, the whole points to
pub points-whole : {left right : FieldId} {part whole : Heap} {from to : ℕ} → IsPart part whole
    → Points left right part from to → Points left right whole from to
points-whole {from = from} p q = record { cell = q.cell; here = part-has from q.cell p q.here; by = q.by }

-- from a cell that a part has the same is pointed to in the part and in the whole
pub points-part : {left right : FieldId} {part whole : Heap} {from to : ℕ} → IsPart part whole → Has part from
    → Points left right whole from to → Points left right part from to
points-part {left} {right} {part} {whole} {from} {to} p h q =
    let same : q.cell ≡ h.0 = same_Some q.cell h.0 (sym q.here ∙ part-has from h.0 p h.1) in
    record { cell = q.cell; here = h.1 ∙ ap Some (sym same); by = q.by }

-- no cell of the heap points out of it
abbrev pub IsClosed : (left right : FieldId) → Heap → Type 0
IsClosed left right heap = (from to : ℕ) → Points left right heap from to → Has heap to

-- a path of a heap that begins in a closed part stays there
pub reaches-within : {left right : FieldId} {part whole : Heap} {from to : ℕ} → IsClosed left right part
    → IsPart part whole → Has part from → Reaches left right whole from to
    → Reaches left right part from to × Has part to
reaches-within {from = from} {to} k p h (step q) = let m = points-part p h q in (step m, k from to m)
reaches-within {from = from} {to} k p h (further via q l) =
    let m = points-part p h q in
    let n = reaches-within k p (k from via m) l in
    (further via m n.0, n.1)

-- what a part has, the whole has
pub has-whole : {part whole : Heap} {location : ℕ} → IsPart part whole → Has part location
    → Has whole location
has-whole {location = location} p h = (h.0, part-has location h.0 p h.1)

-- a path begins at a cell of the heap
pub reaches-has : {left right : FieldId} {heap : Heap} {from to : ℕ} → Reaches left right heap from to
    → Has heap from
reaches-has (step q) = (q.cell, q.here)
reaches-has (further via q l) = (q.cell, q.here)

-- One cell at a root, and closed heaps below its two fields
module _ {left right : FieldId} {a : ℕ} {c : Cell} {h g r x y : Heap} (o : IsOne a c g) (u : Splits h g r)
    (v : Splits r x y)
    (to_first : (b : ℕ) → c left.0 ≡ loc b → Has x b) (to_second : (b : ℕ) → c right.0 ≡ loc b → Has y b)
    (first_closed : IsClosed left right x) (second_closed : IsClosed left right y) where
  first_part : IsPart x h
  first_part = part-trans (part-left v) (part-right u)

  second_part : IsPart y h
  second_part = part-trans (part-right v) (part-right u)

  -- where a cell of the whole is
  where_is : (b : ℕ) (d : Cell) → h b ≡ Some d → ((b ≡ a) × (d ≡ c)) ⊎ ((x b ≡ Some d) ⊎ (y b ≡ Some d))
  where_is b d e = whole (splits-which b d u e)
    where
      below : ((x b ≡ Some d) × (y b ≡ None)) ⊎ ((y b ≡ Some d) × (x b ≡ None))
          → ((b ≡ a) × (d ≡ c)) ⊎ ((x b ≡ Some d) ⊎ (y b ≡ Some d))
      below (inl i) = inr (inl i.0)
      below (inr i) = inr (inr i.0)

      at : (b ≡ a) ⊎ (b ≢ a) → g b ≡ Some d → ((b ≡ a) × (d ≡ c)) ⊎ ((x b ≡ Some d) ⊎ (y b ≡ Some d))
      at (inl i) j = inl (i, same_Some d c (sym j ∙ ap g i ∙ o.here))
      at (inr n) j = absurd (none-some d (sym (o.elsewhere b n) ∙ j))

      whole : ((g b ≡ Some d) × (r b ≡ None)) ⊎ ((r b ≡ Some d) × (g b ≡ None))
          → ((b ≡ a) × (d ≡ c)) ⊎ ((x b ≡ Some d) ⊎ (y b ≡ Some d))
      whole (inl i) = at (cases_eq b a) i.0
      whole (inr i) = below (splits-which b d v i.0)

  -- the root points below itself
  root_points : (to : ℕ) (d : Cell) → d ≡ c → (d left.0 ≡ loc to) ⊎ (d right.0 ≡ loc to) → Has x to ⊎ Has y to
  root_points to d s (inl e) = inl (to_first to (ap (λ z. z left.0) (sym s) ∙ e))
  root_points to d s (inr e) = inr (to_second to (ap (λ z. z right.0) (sym s) ∙ e))

  below_is : (to : ℕ) → Has x to ⊎ Has y to → Has r to
  below_is to (inl e) = has-whole (part-left v) e
  below_is to (inr e) = has-whole (part-right v) e

  node-closed : IsClosed left right h
  node-closed from to q = go (where_is from q.cell q.here)
    where
      go : ((from ≡ a) × (q.cell ≡ c)) ⊎ ((x from ≡ Some q.cell) ⊎ (y from ≡ Some q.cell)) → Has h to
      go (inl i) = has-whole (part-right u) (below_is to (root_points to q.cell i.1 q.by))
      go (inr (inl i)) = has-whole first_part (first_closed from to (points-part first_part (q.cell, i) q))
      go (inr (inr i)) = has-whole second_part (second_closed from to (points-part second_part (q.cell, i) q))

  -- a path that begins below the root stays there
  below_leads : (from to : ℕ) → Has x from ⊎ Has y from → Reaches left right h from to → Has x to ⊎ Has y to
  below_leads from to (inl i) l = inl (reaches-within first_closed first_part i l).1
  below_leads from to (inr i) l = inr (reaches-within second_closed second_part i l).1

  root_cell : (d : Cell) → h a ≡ Some d → d ≡ c
  root_cell d e = same_Some d c (sym e ∙ one-in o u)

  -- a path that begins at the root leads below it
  root_leads : (from to : ℕ) → from ≡ a → Reaches left right h from to → Has x to ⊎ Has y to
  root_leads from to e (step q) = root_points to q.cell (root_cell q.cell (ap h (sym e) ∙ q.here)) q.by
  root_leads from to e (further via q l) =
      below_leads via to (root_points via q.cell (root_cell q.cell (ap h (sym e) ∙ q.here)) q.by) l

  node-acyclic : IsAcyclic left right x → IsAcyclic left right y → IsAcyclic left right h
  node-acyclic m n b l = let k = reaches-has l in go (where_is b k.0 k.1)
    where
      go : ((b ≡ a) × ((reaches-has l).0 ≡ c))
          ⊎ ((x b ≡ Some (reaches-has l).0) ⊎ (y b ≡ Some (reaches-has l).0)) → ⊥
      go (inl i) =
          let j = below_is b (root_leads b b i.0 l) in
          none-some j.0 (sym (splits-lacks_right a c u o.here) ∙ ap r (sym i.0) ∙ j.1)
      go (inr (inl i)) = m b (reaches-within first_closed first_part ((reaches-has l).0, i) l).0
      go (inr (inr i)) = n b (reaches-within second_closed second_part ((reaches-has l).0, i) l).0

  -- no cell points to the root
  root_not_pointed : (from : ℕ) → Points left right h from a → ⊥
  root_not_pointed from q = go (where_is from q.cell q.here)
    where
      below : Has r a → ⊥
      below k = none-some k.0 (sym (splits-lacks_right a c u o.here) ∙ k.1)

      go : ((from ≡ a) × (q.cell ≡ c)) ⊎ ((x from ≡ Some q.cell) ⊎ (y from ≡ Some q.cell)) → ⊥
      go (inl i) = below (below_is a (root_points a q.cell i.1 q.by))
      go (inr (inl i)) = below (below_is a (inl (first_closed from a (points-part first_part (q.cell, i) q))))
      go (inr (inr i)) = below (below_is a
          (inr (second_closed from a (points-part second_part (q.cell, i) q))))

  -- the two parts below the root have nothing in common
  parts_differ : (b : ℕ) → Has x b → Has y b → ⊥
  parts_differ b i j = none-some j.0 (sym (splits-lacks_right b i.0 v i.1) ∙ j.1)

  module _ (first_root : (b from : ℕ) → c left.0 ≡ loc b → Points left right x from b → ⊥)
      (second_root : (b from : ℕ) → c right.0 ≡ loc b → Points left right y from b → ⊥) where
    -- what the root points to isn't pointed to from below it
    root_apart : (from to : ℕ) (d : Cell) → d ≡ c → (d left.0 ≡ loc to) ⊎ (d right.0 ≡ loc to)
        → Points left right x from to ⊎ Points left right y from to → ⊥
    root_apart from to d s (inl e) (inl q) = first_root to from (ap (λ z. z left.0) (sym s) ∙ e) q
    root_apart from to d s (inl e) (inr q) =
        parts_differ to (to_first to (ap (λ z. z left.0) (sym s) ∙ e)) (second_closed from to q)
    root_apart from to d s (inr e) (inl q) =
        parts_differ to (first_closed from to q) (to_second to (ap (λ z. z right.0) (sym s) ∙ e))
    root_apart from to d s (inr e) (inr q) = second_root to from (ap (λ z. z right.0) (sym s) ∙ e) q

    node-one_cell : IsUnshared left right x → IsUnshared left right y → (from other to : ℕ)
        → Points left right h from to → Points left right h other to → from ≡ other
    node-one_cell m n from other to q s = go (where_is from q.cell q.here) (where_is other s.cell s.here)
      where
        go : ((from ≡ a) × (q.cell ≡ c)) ⊎ ((x from ≡ Some q.cell) ⊎ (y from ≡ Some q.cell))
            → ((other ≡ a) × (s.cell ≡ c)) ⊎ ((x other ≡ Some s.cell) ⊎ (y other ≡ Some s.cell))
            → from ≡ other
        go (inl i) (inl j) = i.0 ∙ sym j.0
        go (inl i) (inr (inl j)) =
            absurd (root_apart other to q.cell i.1 q.by (inl (points-part first_part (s.cell, j) s)))
        go (inl i) (inr (inr j)) =
            absurd (root_apart other to q.cell i.1 q.by (inr (points-part second_part (s.cell, j) s)))
        go (inr (inl i)) (inl j) =
            absurd (root_apart from to s.cell j.1 s.by (inl (points-part first_part (q.cell, i) q)))
        go (inr (inr i)) (inl j) =
            absurd (root_apart from to s.cell j.1 s.by (inr (points-part second_part (q.cell, i) q)))
        go (inr (inl i)) (inr (inl j)) =
            m.one_cell from other to (points-part first_part (q.cell, i) q)
            (points-part first_part (s.cell, j) s)
        go (inr (inl i)) (inr (inr j)) =
            absurd (parts_differ to (first_closed from to (points-part first_part (q.cell, i) q))
            (second_closed other to (points-part second_part (s.cell, j) s)))
        go (inr (inr i)) (inr (inl j)) =
            absurd (parts_differ to (first_closed other to (points-part first_part (s.cell, j) s))
            (second_closed from to (points-part second_part (q.cell, i) q)))
        go (inr (inr i)) (inr (inr j)) =
            n.one_cell from other to (points-part second_part (q.cell, i) q)
            (points-part second_part (s.cell, j) s)

    node-one_field : IsUnshared left right x → IsUnshared left right y → (from to : ℕ) (d : Cell)
        → h from ≡ Some d → d left.0 ≡ loc to → d right.0 ≡ loc to → ⊥
    node-one_field m n from to d there l r = go (where_is from d there)
      where
        go : ((from ≡ a) × (d ≡ c)) ⊎ ((x from ≡ Some d) ⊎ (y from ≡ Some d)) → ⊥
        go (inl i) = parts_differ to (to_first to (ap (λ z. z left.0) (sym i.1) ∙ l))
            (to_second to (ap (λ z. z right.0) (sym i.1) ∙ r))
        go (inr (inl i)) = m.one_field from to d i l r
        go (inr (inr i)) = n.one_field from to d i l r

    node-unshared : IsUnshared left right x → IsUnshared left right y → IsUnshared left right h
    node-unshared m n = record { one_cell = node-one_cell m n; one_field = node-one_field m n }

-- no cell of a tree points out of it
pub tree-closed : {left right : FieldId} {root : Value} {heap : Heap} → Tree left right root heap
    → IsClosed left right heap
tree-closed (leaf e m) = λ from to q. absurd (none-some q.cell (sym (m.none from) ∙ q.here))
tree-closed (node a c g r x y p o u v d f) =
    node-closed o u v (λ b i. tree-has_root b i d) (λ b i. tree-has_root b i f) (tree-closed d)
    (tree-closed f)

-- a tree has no cycle
pub tree-acyclic : {left right : FieldId} {root : Value} {heap : Heap} → Tree left right root heap
    → IsAcyclic left right heap
tree-acyclic (leaf e m) = λ b l. let k = reaches-has l in none-some k.0 (sym (m.none b) ∙ k.1)
tree-acyclic (node a c g r x y p o u v d f) =
    node-acyclic o u v (λ b i. tree-has_root b i d) (λ b i. tree-has_root b i f) (tree-closed d)
    (tree-closed f) (tree-acyclic d) (tree-acyclic f)

-- the root of a tree is in neither of the trees below it
pub tree-root_apart : {left right : FieldId} {root : Value} {heap : Heap} (r : Root left right root heap)
    → (r.first r.location ≡ None) × (r.second r.location ≡ None)
tree-root_apart r = splits-lacks_both r.location r.apart
    (splits-lacks_right r.location r.here r.splits r.cell.here)

-- no cell of a tree points to its root
pub tree-root_not_pointed : {left right : FieldId} {root : Value} {heap : Heap} (location from : ℕ)
    → root ≡ loc location → Tree left right root heap → Points left right heap from location → ⊥
tree-root_not_pointed b from i (leaf e m) q = nil-not_loc b (sym e ∙ i)
tree-root_not_pointed {left} {right} {heap = heap} b from i (node a c g r x y p o u v d f) q =
    root_not_pointed o u v (λ l j. tree-has_root l j d) (λ l j. tree-has_root l j f) (tree-closed d)
    (tree-closed f) from (subst (Points left right heap from) (loc-same b a (sym i ∙ p)) q)

-- a tree shares nothing
pub tree-unshared : {left right : FieldId} {root : Value} {heap : Heap} → Tree left right root heap
    → IsUnshared left right heap
tree-unshared (leaf e m) = record {
  one_cell = λ from other to q s. absurd (none-some q.cell (sym (m.none from) ∙ q.here));
  one_field = λ from to d there l r. none-some d (sym (m.none from) ∙ there);
}
tree-unshared (node a c g r x y p o u v d f) =
    node-unshared o u v (λ b i. tree-has_root b i d) (λ b i. tree-has_root b i f) (tree-closed d)
    (tree-closed f) (λ b from i q. tree-root_not_pointed b from i d q)
    (λ b from i q. tree-root_not_pointed b from i f q) (tree-unshared d) (tree-unshared f)
