-- A whole as the disjoint union of a list of parts, and lists of properties under ⋆: opened, reordered
-- and grouped.
-- Names: `sums-LAW` speaks of lists of parts, over anything that splits; `stars-LAW` of lists under ⋆.
use Rattle.std.specs.Prelude.{◌≡◌, ℕ, zero, suc, List, [], ◌∷◌, ◌++◌}
use Rattle.std.proofs.Common.{sym, refl, subst}
use Rattle.sf_base.proofs.HeapSplits.{star-of, star-assoc_left, star-assoc_right, star-drop_left, star-empty_left, star-map, star-map_right, star-swap}
use Rattle.sf_base.proofs.MapSplits.{empty_map, empty-holds, splits-comm, splits-assoc_right, splits-cancel_left, splits-empty_right, splits-of_empty_right}
use Rattle.sf_base.specs.HeapStore.{Map, Heap, IsEmpty, Splits, ◌⋆◌}

-- the first two parts of three, put together, and the whole with them
pub record Grouping {A : Type 0} (Parts : A → A → A → Type 0) (whole a b c : A) : Type 0 where
  pub both : A
  pub inner : Parts both b c
  pub outer : Parts whole a both

-- things that split in two: commutative, associative, with nothing for a unit, and each part determined
-- by the other
pub record Splitting (A : Type 0) : Type 1 where
  pub Parts : (whole left right : A) → Type 0
  pub nothing : A
  pub comm : {w a b : A} → Parts w a b → Parts w b a
  pub assoc : {w ab a b c : A} → Parts ab a b → Parts w ab c → Grouping Parts w a b c
  pub unit : (w : A) → Parts w w nothing
  pub of_unit : {w a : A} → Parts w a nothing → w ≡ a
  pub cancel : {w a b c : A} → Parts w a b → Parts w a c → b ≡ c

-- maps split in two
abbrev pub maps : (K X : Type 0) → Splitting (Map K X)
maps K X = record {
  Parts = Splits;
  nothing = empty_map;
  comm = splits-comm;
  assoc = λ i j. let m = splits-assoc_right i j in record { both = _; inner = m.0; outer = m.1 };
  unit = λ w. splits-empty_right empty-holds;
  of_unit = splits-of_empty_right empty-holds;
  cancel = splits-cancel_left;
}

-- the part at that place of a list
abbrev pub nth : {A : Type 0} → A → ℕ → List A → A
nth none n [] = none
nth none zero (u ∷ us) = u
nth none (suc n) (u ∷ us) = nth none n us

-- the list without its element at that place
abbrev pub without : {A : Type 0} → ℕ → List A → List A
without n [] = []
without zero (u ∷ us) = us
without (suc n) (u ∷ us) = u ∷ without n us

-- the list in the order of the places, each counted among those that are left; what is not named stays
-- behind them
abbrev pub ordered : {A : Type 0} → A → List ℕ → List A → List A
ordered none [] us = us
ordered none (n ∷ ns) us = nth none n us ∷ ordered none ns (without n us)

module _ {A : Type 0} (S : Splitting A) where
  -- the whole is the disjoint union of the parts of a list
  abbrev pub Sums : A → List A → Type 0
  Sums w [] = w ≡ S.nothing
  Sums w (u ∷ us) = (v : A) × S.Parts w u v × Sums v us

  -- the first two parts of a whole put together, with what they make
  pub record Cut (w u v : A) (us : List A) : Type 0 where
    pub both : A
    pub parts : S.Parts both u v
    pub sums : Sums w (both ∷ us)

module _ {A : Type 0} (S : Splitting A) where
  -- a (b c) becomes (a b) c
  pub parts-assoc_left : {w bc a b c : A} → S.Parts bc b c → S.Parts w a bc → Grouping S.Parts w c a b
  parts-assoc_left i j =
      let m = S.assoc (S.comm i) (S.comm j) in
      record { both = m.both; inner = S.comm m.inner; outer = m.outer }

  -- the only part is the whole
  pub sums-one : {w u : A} → Sums S w (u ∷ []) → w ≡ u
  sums-one {w} {u} s = S.of_unit (subst (S.Parts w u) s.2 s.1)

  -- a whole is its only part
  pub sums-single : (w : A) → Sums S w (w ∷ [])
  sums-single w = (S.nothing, S.unit w, refl)

  -- two parts are a list of two
  pub sums-of_parts : {w u v : A} → S.Parts w u v → Sums S w (u ∷ v ∷ [])
  sums-of_parts {v = v} p = (v, p, sums-single v)

  -- a list of two is two parts
  pub sums-parts : {w u v : A} → Sums S w (u ∷ v ∷ []) → S.Parts w u v
  sums-parts {w} {u} s = subst (S.Parts w u) (sums-one s.2) s.1

  -- the first two parts may be exchanged
  pub sums-swap : {w u v : A} (us : List A) → Sums S w (u ∷ v ∷ us) → Sums S w (v ∷ u ∷ us)
  sums-swap us (x, p, (y, q, s)) =
      let m = parts-assoc_left q p in
      let n = S.assoc (S.comm m.inner) (S.comm m.outer) in
      (n.both, n.outer, (y, n.inner, s))

  -- the part at any place may come first
  pub sums-pick : (n : ℕ) (us : List A) (w : A) → Sums S w us → Sums S w (nth S.nothing n us ∷ without n us)
  sums-pick n [] w s = (w, S.comm (S.unit w), s)
  sums-pick zero (u ∷ us) w s = s
  sums-pick (suc n) (u ∷ us) w s = sums-swap (without n us) (s.0, s.1, sums-pick n us s.0 s.2)

  -- the parts may be in any order
  pub sums-order : (ns : List ℕ) (us : List A) (w : A) → Sums S w us → Sums S w (ordered S.nothing ns us)
  sums-order [] us w s = s
  sums-order (n ∷ ns) us w s = let t = sums-pick n us w s in (t.0, t.1, sums-order ns (without n us) t.0 t.2)

  -- the lists of two parts make one list of the whole
  pub sums-join : (us vs : List A) (w a b : A) → S.Parts w a b → Sums S a us → Sums S b vs
      → Sums S w (us ++ vs)
  sums-join [] vs w a b p e s =
      subst (λ z. Sums S z vs) (sym (S.of_unit (S.comm (subst (λ z. S.Parts w z b) e p)))) s
  sums-join (u ∷ us) vs w a b p (x, q, s) t =
      let m = S.assoc q p in (m.both, m.outer, sums-join us vs m.both x b m.inner s t)

  -- the first part is opened into its own parts
  pub sums-open : {u w : A} (us vs : List A) → Sums S w (u ∷ vs) → Sums S u us → Sums S w (us ++ vs)
  sums-open {u} {w} us vs (v, p, s) t = sums-join us vs w u v p t s

  -- the first two parts become one
  pub sums-cut : {w u v : A} (us : List A) → Sums S w (u ∷ v ∷ us) → Cut S w u v us
  sums-cut us (x, p, (y, q, s)) =
      let m = parts-assoc_left q p in
      record { both = m.both; parts = m.inner; sums = (y, S.comm m.outer, s) }

  -- the other parts are what the rest is made of
  pub sums-cancel : {w u v : A} (vs : List A) → S.Parts w u v → Sums S w (u ∷ vs) → Sums S v vs
  sums-cancel vs p (x, q, s) = subst (λ z. Sums S z vs) (S.cancel q p) s

  -- a part in the middle may come first
  pub sums-focus : (before : List A) (u : A) (after : List A) (w : A) → Sums S w (before ++ u ∷ after)
      → Sums S w (u ∷ before ++ after)
  sums-focus [] u after w s = s
  sums-focus (v ∷ before) u after w (x, p, s) =
      sums-swap (before ++ after) (x, p, sums-focus before u after x s)

  -- a part that comes first may come in the middle
  pub sums-unfocus : (before : List A) (u : A) (after : List A) (w : A) → Sums S w (u ∷ before ++ after)
      → Sums S w (before ++ u ∷ after)
  sums-unfocus [] u after w s = s
  sums-unfocus (v ∷ before) u after w s =
      let t = sums-swap (before ++ after) s in (t.0, t.1, sums-unfocus before u after t.0 t.2)

-- the properties of a list, one for each member, on pairwise disjoint heaps that make up the heap
abbrev pub Stars : {I : Type 0} → (I → Heap → Type 0) → List I → Heap → Type 0
Stars P [] heap = IsEmpty heap
Stars P (i ∷ is) heap = (P i ⋆ Stars P is) heap

module _ {I : Type 0} (P : I → Heap → Type 0) where
  -- one list after another is ⋆ of the two
  pub stars-append : (is js : List I) (heap : Heap) → (Stars P is ⋆ Stars P js) heap → Stars P (is ++ js) heap
  stars-append [] js h d = star-drop_left d
  stars-append (i ∷ is) js h d = star-map_right (λ part e. stars-append is js part e) (star-assoc_right d)

  -- ⋆ of two lists is one list after another
  pub stars-split : (is js : List I) (heap : Heap) → Stars P (is ++ js) heap → (Stars P is ⋆ Stars P js) heap
  stars-split [] js h d = star-empty_left d
  stars-split (i ∷ is) js h d = star-assoc_left (star-map_right (λ part e. stars-split is js part e) d)

  -- one member of the list and the others
  pub stars-focus : (before : List I) (i : I) (after : List I) (heap : Heap)
      → Stars P (before ++ i ∷ after) heap → (P i ⋆ Stars P (before ++ after)) heap
  stars-focus [] i after h d = d
  stars-focus (j ∷ before) i after h d =
      star-swap (star-map_right (λ part e. stars-focus before i after part e) d)

  -- the way back
  pub stars-unfocus : (before : List I) (i : I) (after : List I) (heap : Heap)
      → (P i ⋆ Stars P (before ++ after)) heap → Stars P (before ++ i ∷ after) heap
  stars-unfocus [] i after h d = d
  stars-unfocus (j ∷ before) i after h d =
      star-map_right (λ part e. stars-unfocus before i after part e) (star-swap d)

-- each member's property may become weaker
pub stars-map : {I : Type 0} (P Q : I → Heap → Type 0) → ((i : I) (part : Heap) → P i part → Q i part)
    → (is : List I) (heap : Heap) → Stars P is heap → Stars Q is heap
stars-map P Q f [] h d = d
stars-map P Q f (i ∷ is) h d = star-map (f i) (λ part e. stars-map P Q f is part e) d

-- the way back to a weaker family, with another member in that place and what has become of its part
pub stars-replace : {I : Type 0} (P Q : I → Heap → Type 0) → ((i : I) (part : Heap) → P i part → Q i part)
    → (before : List I) (i : I) (after : List I) (heap part rest : Heap) → Splits heap part rest → Q i part
    → Stars P (before ++ after) rest → Stars Q (before ++ i ∷ after) heap
stars-replace P Q f before i after h part rest s q d =
    stars-unfocus Q before i after h (star-of s q (stars-map P Q f (before ++ after) rest d))
