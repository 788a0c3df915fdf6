-- Walks in a heap with finitely many cells: one that ends, or walks that are as long as one likes.
-- Names: `walk-LAW`; `segment-LAW` and `trees-LAW` of the two walks.
use Rattle.std.proofs.Common.{◌≡◌, ◌≢◌, ◌⊎◌, ◌≤◌, ℕ, zero, suc, List, [], ◌∷◌, length, Option, Some, None, slice_index_or, refl, sym, ap, ◌∙◌, subst, subst₂, inl, inr, arith}
use Rattle.std.specs.FinMap.{get}
use Rattle.std.proofs.lemmas.Option.{none-some, same_Some}
use Rattle.sf_base.specs.declared.ids.FieldId.{FieldId}
use Rattle.sf_base.specs.declared.value.Value.{Value}
use Rattle.sf_base.specs.declared.value.Value.TheVariants.{Nil as nil, Int as int, Loc as loc}
use Rattle.sf_heap.specs.Cells.{Cells, FieldValues}
use Rattle.sf_foot.specs.Checked.Walks.{DoubleWalk, empty, linked, SegmentWalk, end, cell, TreesWalk, none as no_roots, leaf, node}
use Rattle.sf_core.proofs.Assertions.Values.{value-which}
use Rattle.sf_foot.proofs.Walking.{double-after}

-- a walk is the only one, or each is at least so long
abbrev pub Walked : (walk : List ℕ → Type 0) (long : ℕ) → Type 0
Walked walk long = ((ls : List ℕ) × walk ls × ((ms : List ℕ) → walk ms → ms ≡ ls))
    ⊎ ((ms : List ℕ) → walk ms → long ≤ length ms)

-- a walk that leads back, between other values that are the same
pub double-agree : {heap : Cells} {next back : FieldId} {last to before from last2 to2 before2 from2 : Value}
    {ls : List ℕ} → from ≡ from2 → before ≡ before2 → last ≡ last2 → to ≡ to2
    → DoubleWalk heap next back last to before from ls → DoubleWalk heap next back last2 to2 before2 from2 ls
double-agree {heap} {next} {back} {last} {to} {before2 = before2} {from2 = from2} {ls = ls} f b l t d =
    subst₂ (λ x y. DoubleWalk heap next back x y before2 from2 ls) l t
    (subst₂ (λ x y. DoubleWalk heap next back last to x y ls) b f d)

-- one cell before a walk
walk-more : (walk rest : List ℕ → Type 0) (l long : ℕ) → ((ls : List ℕ) → rest ls → walk (l ∷ ls))
    → ((ms : List ℕ) → walk ms → (ks : List ℕ) × (ms ≡ l ∷ ks) × rest ks) → Walked rest long → Walked walk (suc long)
walk-more walk rest l long to from (inl w) = inl (
  l ∷ w.0,
  to w.0 w.1,
  λ ms m. let f = from ms m in f.1 ∙ ap (λ ks. l ∷ ks) (w.2 f.0 f.2),
)
walk-more walk rest l long to from (inr h) = inr (λ ms m.
    let f = from ms m in
    let most : long ≤ length f.0 = h f.0 f.2 in
    let size : length ms ≡ suc (length f.0) = ap length f.1 in
    omega (arith, most, size))

-- A heap with finitely many cells
module _ (heap : Cells) where
  module _ (next : FieldId) (to : Value) where
    segment-ends : (from : Value) (ms : List ℕ) → from ≡ to → SegmentWalk heap next to from ms → ms ≡ []
    segment-ends from ms e (end f n) = n
    segment-ends from ms e (cell o a here rest p g w n) = absurd (o e)

    -- from a value that is no location with a cell, and not the end, there is none
    segment-stuck : (from : Value) (ms : List ℕ) → from ≢ to
        → ((l : ℕ) (here : FieldValues) → from ≡ loc l → get heap l ≡ Some here → ⊥)
        → SegmentWalk heap next to from ms → ⊥
    segment-stuck from ms o out (end f n) = o f
    segment-stuck from ms o out (cell u a here rest p g w n) = out a here p g

    -- after a cell it goes on from there
    segment-after : (l : ℕ) (here : FieldValues) (ms : List ℕ) → loc l ≢ to → get heap l ≡ Some here
        → SegmentWalk heap next to (loc l) ms
        → (ks : List ℕ) × (ms ≡ l ∷ ks) × SegmentWalk heap next to (slice_index_or here next.0 nil) ks
    segment-after l here ms o there (end e n) = absurd (o e)
    segment-after l here ms o there (cell u a h rest p g w n) =
        let same : a ≡ l = cc in
        let also : h ≡ here = same_Some h here (sym g ∙ ap (get heap) same ∙ there) in
        (rest, n ∙ ap (λ b. b ∷ rest) same, subst (λ c. SegmentWalk heap next to (slice_index_or c next.0 nil) rest) also w)

    segment-step : (long : ℕ) → ((v : Value) → Walked (SegmentWalk heap next to v) long) → (from : Value)
        → (from ≡ to) ⊎ (from ≢ to) → Walked (SegmentWalk heap next to from) (suc long)
    segment-step long walk from (inl e) = inl ([], end e refl, λ ms m. segment-ends from ms e m)
    segment-step long walk nil (inr o) = inr (λ ms m. absurd (segment-stuck nil ms o (λ l here e g. cc) m))
    segment-step long walk (int i) (inr o) = inr (λ ms m. absurd (segment-stuck (int i) ms o (λ l here e g. cc) m))
    segment-step long walk (loc l) (inr o) = go (get heap l) refl
      where
        go : (c : Option FieldValues) → get heap l ≡ c → Walked (SegmentWalk heap next to (loc l)) (suc long)
        go None g = inr (λ ms m. absurd (segment-stuck (loc l) ms o
            (λ k here e h. let same : l ≡ k = cc in none-some here (sym g ∙ ap (get heap) same ∙ h)) m))
        go (Some here) g = walk-more (SegmentWalk heap next to (loc l))
            (SegmentWalk heap next to (slice_index_or here next.0 nil)) l long
            (λ ls w. cell o l here ls refl g w refl)
            (λ ms m. segment-after l here ms o g m)
            (walk (slice_index_or here next.0 nil))

    pub walk-segment : (long : ℕ) (from : Value) → Walked (SegmentWalk heap next to from) long
    walk-segment zero from = inr (λ ms m. omega arith)
    walk-segment (suc long) from = segment-step long (walk-segment long) from (value-which from to)

  module _ (next back : FieldId) (last to : Value) where
    double-ends : (before from : Value) (ms : List ℕ) → from ≡ to → DoubleWalk heap next back last to before from ms
        → (before ≡ last) × (ms ≡ [])
    double-ends before from ms e (empty f b n) = (b, n)
    double-ends before from ms e (linked o a here rest p g k w n) = absurd (o e)

    double-stuck : (before from : Value) (ms : List ℕ) → from ≢ to
        → ((l : ℕ) (here : FieldValues) → from ≡ loc l → get heap l ≡ Some here → ⊥)
        → DoubleWalk heap next back last to before from ms → ⊥
    double-stuck before from ms o out (empty f b n) = o f
    double-stuck before from ms o out (linked u a here rest p g k w n) = out a here p g

    double-cell : (long : ℕ) → ((before v : Value) → Walked (DoubleWalk heap next back last to before v) long)
        → (before : Value) (l : ℕ) (here : FieldValues) → loc l ≢ to → get heap l ≡ Some here
        → (slice_index_or here back.0 nil ≡ before) ⊎ (slice_index_or here back.0 nil ≢ before)
        → Walked (DoubleWalk heap next back last to before (loc l)) (suc long)
    double-cell long walk before l here o g (inl k) = walk-more (DoubleWalk heap next back last to before (loc l))
        (DoubleWalk heap next back last to (loc l) (slice_index_or here next.0 nil)) l long
        (λ ls w. linked o l here ls refl g k w refl)
        (λ ms m. (double-after heap next back last to before (loc l) l here ms o refl g m).1)
        (walk (loc l) (slice_index_or here next.0 nil))
    double-cell long walk before l here o g (inr k) =
        inr (λ ms m. absurd (k (double-after heap next back last to before (loc l) l here ms o refl g m).0))

    double-end : (long : ℕ) (before from : Value) → from ≡ to → (before ≡ last) ⊎ (before ≢ last)
        → Walked (DoubleWalk heap next back last to before from) long
    double-end long before from e (inl b) = inl ([], empty e b refl, λ ms m. (double-ends before from ms e m).1)
    double-end long before from e (inr b) = inr (λ ms m. absurd (b (double-ends before from ms e m).0))

    double-step : (long : ℕ) → ((before v : Value) → Walked (DoubleWalk heap next back last to before v) long)
        → (before from : Value) → (from ≡ to) ⊎ (from ≢ to)
        → Walked (DoubleWalk heap next back last to before from) (suc long)
    double-step long walk before from (inl e) = double-end (suc long) before from e (value-which before last)
    double-step long walk before nil (inr o) =
        inr (λ ms m. absurd (double-stuck before nil ms o (λ l here e g. cc) m))
    double-step long walk before (int i) (inr o) =
        inr (λ ms m. absurd (double-stuck before (int i) ms o (λ l here e g. cc) m))
    double-step long walk before (loc l) (inr o) = go (get heap l) refl
      where
        go : (c : Option FieldValues) → get heap l ≡ c
            → Walked (DoubleWalk heap next back last to before (loc l)) (suc long)
        go None g = inr (λ ms m. absurd (double-stuck before (loc l) ms o
            (λ k here e h. let same : l ≡ k = cc in none-some here (sym g ∙ ap (get heap) same ∙ h)) m))
        go (Some here) g = double-cell long walk before l here o g
            (value-which (slice_index_or here back.0 nil) before)

    pub walk-double : (long : ℕ) (before from : Value)
        → Walked (DoubleWalk heap next back last to before from) long
    walk-double zero before from = inr (λ ms m. omega arith)
    walk-double (suc long) before from = double-step long (walk-double long) before from (value-which from to)

  module _ (left right : FieldId) where
    trees-end : (ms : List ℕ) → TreesWalk heap left right [] ms → ms ≡ []
    trees-end ms (no_roots e n) = n
    trees-end ms (leaf others e w) = absurd cc
    trees-end ms (node a others here rest e g w n) = absurd cc

    trees-stuck : (v : Value) (others : List Value) (ms : List ℕ) → v ≢ nil
        → ((l : ℕ) (here : FieldValues) → v ≡ loc l → get heap l ≡ Some here → ⊥)
        → TreesWalk heap left right (v ∷ others) ms → ⊥
    trees-stuck v others ms o out (no_roots e n) = absurd cc
    trees-stuck v others ms o out (leaf more e w) = o (cc)
    trees-stuck v others ms o out (node a more here rest e g w n) = out a here (cc) g

    -- after nil, and after a node, it goes on with the others
    trees-leaf : (others : List Value) (ms : List ℕ) → TreesWalk heap left right (nil ∷ others) ms
        → TreesWalk heap left right others ms
    trees-leaf others ms (no_roots e n) = absurd cc
    trees-leaf others ms (leaf more e w) =
        let same : more ≡ others = cc in subst (λ r. TreesWalk heap left right r ms) same w
    trees-leaf others ms (node a more h rest e g w n) = absurd cc

    trees-after : (l : ℕ) (here : FieldValues) (others : List Value) (ms : List ℕ) → get heap l ≡ Some here
        → TreesWalk heap left right (loc l ∷ others) ms → (ks : List ℕ) × (ms ≡ l ∷ ks)
        × TreesWalk heap left right (slice_index_or here left.0 nil ∷ slice_index_or here right.0 nil ∷ others) ks
    trees-after l here others ms there (no_roots e n) = absurd cc
    trees-after l here others ms there (leaf more e w) = absurd cc
    trees-after l here others ms there (node a more h rest e g w n) =
        let same : a ≡ l = cc in
        let same_others : more ≡ others = cc in
        let also : h ≡ here = same_Some h here (sym g ∙ ap (get heap) same ∙ there) in (
          rest,
          n ∙ ap (λ b. b ∷ rest) same,
          subst₂ (λ c r. TreesWalk heap left right (slice_index_or c left.0 nil ∷ slice_index_or c right.0 nil ∷ r) rest)
              also same_others w,
        )

    trees-skip : (long : ℕ) (others : List Value) → Walked (TreesWalk heap left right others) long
        → Walked (TreesWalk heap left right (nil ∷ others)) long
    trees-skip long others (inl w) = inl (w.0, leaf others refl w.1, λ ms m. w.2 ms (trees-leaf others ms m))
    trees-skip long others (inr h) = inr (λ ms m. h ms (trees-leaf others ms m))

    trees-step : (long : ℕ) → ((roots : List Value) → Walked (TreesWalk heap left right roots) long)
        → (roots : List Value) → Walked (TreesWalk heap left right roots) (suc long)
    trees-step long walk [] = inl ([], no_roots refl refl, λ ms m. trees-end ms m)
    trees-step long walk (nil ∷ others) = trees-skip (suc long) others (trees-step long walk others)
    trees-step long walk (int i ∷ others) = inr (λ ms m.
        absurd (trees-stuck (int i) others ms (λ e. cc) (λ l here e g. cc) m))
    trees-step long walk (loc l ∷ others) = go (get heap l) refl
      where
        go : (c : Option FieldValues) → get heap l ≡ c → Walked (TreesWalk heap left right (loc l ∷ others)) (suc long)
        go None g = inr (λ ms m. absurd (trees-stuck (loc l) others ms (λ e. cc)
            (λ k here e h. let same : l ≡ k = cc in none-some here (sym g ∙ ap (get heap) same ∙ h)) m))
        go (Some here) g = walk-more (TreesWalk heap left right (loc l ∷ others))
            (TreesWalk heap left right (slice_index_or here left.0 nil ∷ slice_index_or here right.0 nil ∷ others)) l long
            (λ ls w. node l others here ls refl g w refl)
            (λ ms m. trees-after l here others ms g m)
            (walk (slice_index_or here left.0 nil ∷ slice_index_or here right.0 nil ∷ others))

    pub walk-trees : (long : ℕ) (roots : List Value) → Walked (TreesWalk heap left right roots) long
    walk-trees zero roots = inr (λ ms m. omega arith)
    walk-trees (suc long) roots = trees-step long (walk-trees long) roots
