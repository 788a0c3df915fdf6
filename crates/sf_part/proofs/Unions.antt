-- Maps that are the disjoint union of a list of maps: reordered and regrouped.
-- Names: `union-LAW`; the maps of a list of things, with others after them, are focused on one of
-- the things.
use Rattle.std.specs.Prelude.{List, [], ◌∷◌, ◌++◌, map}
use Rattle.std.proofs.Common.{sym, subst}
use Rattle.sf_base.proofs.MapSplits.{empty_map, empty-holds, splits-assoc_left, splits-assoc_right, splits-empty_left, splits-is, splits-of_empty_left, splits-swap, union}
use Rattle.sf_base.specs.HeapStore.{Map, Splits}
use Rattle.sf_core.specs.Machine.Whole.{IsUnion}

module _ {K X : Type 0} where
  -- the first two maps may be exchanged
  pub union-swap : (w u v : Map K X) (us : List (Map K X)) → IsUnion w (u ∷ v ∷ us)
      → IsUnion w (v ∷ u ∷ us)
  union-swap w u v us (x, p, (y, q, s)) = let m = splits-swap q p in (union u y, m.1, (y, m.0, s))

  -- the first two maps become one
  pub union-join : (w m u v : Map K X) (us : List (Map K X)) → Splits m u v → IsUnion w (u ∷ v ∷ us)
      → IsUnion w (m ∷ us)
  union-join w m u v us i (x, p, (y, q, s)) =
      let n = splits-assoc_left q p in (y, subst (λ z. Splits w z y) (sym (splits-is i)) n.1, s)

  -- the first map becomes two
  pub union-part : (w m u v : Map K X) (us : List (Map K X)) → Splits m u v → IsUnion w (m ∷ us)
      → IsUnion w (u ∷ v ∷ us)
  union-part w m u v us i (x, p, s) =
      let n = splits-assoc_right i p in (union v x, n.1, (x, n.0, s))

  -- a map in the middle may come first
  pub union-focus : (before : List (Map K X)) (u : Map K X) (after : List (Map K X)) (w : Map K X)
      → IsUnion w (before ++ u ∷ after) → IsUnion w (u ∷ before ++ after)
  union-focus [] u after w s = s
  union-focus (v ∷ before) u after w (x, p, s) =
      union-swap w v u (before ++ after) (x, p, union-focus before u after x s)

  -- a map that comes first may come in the middle
  pub union-unfocus : (before : List (Map K X)) (u : Map K X) (after : List (Map K X)) (w : Map K X)
      → IsUnion w (u ∷ before ++ after) → IsUnion w (before ++ u ∷ after)
  union-unfocus [] u after w s = s
  union-unfocus (v ∷ before) u after w s =
      let t = union-swap w u v (before ++ after) s in
      (t.0, t.1, union-unfocus before u after t.0 t.2)

  -- a map in the middle may come second
  pub union-second : (first : Map K X) (before : List (Map K X)) (u : Map K X)
      (after : List (Map K X)) (w : Map K X)
      → IsUnion w (first ∷ before ++ u ∷ after) → IsUnion w (first ∷ u ∷ before ++ after)
  union-second first before u after w (x, p, s) = (x, p, union-focus before u after x s)

  -- a map that comes second may come in the middle
  pub union-unsecond : (first : Map K X) (before : List (Map K X)) (u : Map K X)
      (after : List (Map K X))
      (w : Map K X) → IsUnion w (first ∷ u ∷ before ++ after)
      → IsUnion w (first ∷ before ++ u ∷ after)
  union-unsecond first before u after w (x, p, s) = (x, p, union-unfocus before u after x s)

  -- the first maps become the one that is their union
  pub union-gather : (us vs : List (Map K X)) (w m : Map K X) → IsUnion m us → IsUnion w (us ++ vs)
      → IsUnion w (m ∷ vs)
  union-gather [] vs w m e s = (w, splits-empty_left e, s)
  union-gather (u ∷ us) vs w m (y, q, t) (x, p, s) =
      let (z, o, r) = union-gather us vs x y t s in
      union-join w m u y vs q (x, p, (z, o, r))

  -- the first map becomes those that it is the union of
  pub union-open : (us vs : List (Map K X)) (w m : Map K X) → IsUnion m us → IsUnion w (m ∷ vs)
      → IsUnion w (us ++ vs)
  union-open [] vs w m e (x, p, s) = subst (λ z. IsUnion z vs) (sym (splits-of_empty_left e p)) s
  union-open (u ∷ us) vs w m (y, q, t) s =
      let (x, p, r) = union-part w m u y vs q s in (x, p, union-open us vs x y t r)

  -- the first maps have a union of their own
  pub union-take : (us vs : List (Map K X)) (w : Map K X) → IsUnion w (us ++ vs)
      → (m : Map K X) × IsUnion m us × IsUnion w (m ∷ vs)
  union-take [] vs w s = (empty_map, empty-holds, (w, splits-empty_left empty-holds, s))
  union-take (u ∷ us) vs w (x, p, s) =
      let (m, i, (y, q, r)) = union-take us vs x s in
      let n = splits-assoc_left q p in
      (union u m, (m, n.0, i), (y, n.1, r))

module _ {A K X : Type 0} (f : A → Map K X) (tail : List (Map K X)) where
  -- the map of the thing in the middle comes first
  pub union-focus_map : (before : List A) (a : A) (after : List A) (w : Map K X)
      → IsUnion w (map f (before ++ a ∷ after) ++ tail)
      → IsUnion w (f a ∷ map f (before ++ after) ++ tail)
  union-focus_map [] a after w s = s
  union-focus_map (b ∷ before) a after w (x, p, s) =
      union-swap w (f b) (f a) (map f (before ++ after) ++ tail)
      (x, p, union-focus_map before a after x s)

  -- the way back
  pub union-unfocus_map : (before : List A) (a : A) (after : List A) (w : Map K X)
      → IsUnion w (f a ∷ map f (before ++ after) ++ tail)
      → IsUnion w (map f (before ++ a ∷ after) ++ tail)
  union-unfocus_map [] a after w s = s
  union-unfocus_map (b ∷ before) a after w s =
      let (x, p, r) = union-swap w (f a) (f b) (map f (before ++ after) ++ tail) s in
      (x, p, union-unfocus_map before a after x r)

module _ {A K X : Type 0} (f : A → Map K X) where
  -- the same of the maps of things alone
  pub union-focus_all : (before : List A) (a : A) (after : List A) (w : Map K X)
      → IsUnion w (map f (before ++ a ∷ after))
      → IsUnion w (f a ∷ map f (before ++ after))
  union-focus_all [] a after w s = s
  union-focus_all (b ∷ before) a after w (x, p, s) =
      union-swap w (f b) (f a) (map f (before ++ after)) (x, p, union-focus_all before a after x s)

  pub union-unfocus_all : (before : List A) (a : A) (after : List A) (w : Map K X)
      → IsUnion w (f a ∷ map f (before ++ after)) → IsUnion w (map f (before ++ a ∷ after))
  union-unfocus_all [] a after w s = s
  union-unfocus_all (b ∷ before) a after w s =
      let (x, p, r) = union-swap w (f a) (f b) (map f (before ++ after)) s in
      (x, p, union-unfocus_all before a after x r)

  -- a thing in the middle, after other maps, may come first among them
  pub union-focus_tail : (head : List (Map K X)) (before : List A) (a : A) (after : List A)
      (w : Map K X)
      → IsUnion w (head ++ map f (before ++ a ∷ after))
      → IsUnion w (head ++ f a ∷ map f (before ++ after))
  union-focus_tail [] before a after w s = union-focus_all before a after w s
  union-focus_tail (u ∷ head) before a after w (x, p, s) =
      (x, p, union-focus_tail head before a after x s)

  pub union-unfocus_tail : (head : List (Map K X)) (before : List A) (a : A) (after : List A)
      (w : Map K X)
      → IsUnion w (head ++ f a ∷ map f (before ++ after))
      → IsUnion w (head ++ map f (before ++ a ∷ after))
  union-unfocus_tail [] before a after w s = union-unfocus_all before a after w s
  union-unfocus_tail (u ∷ head) before a after w (x, p, s) =
      (x, p, union-unfocus_tail head before a after x s)
