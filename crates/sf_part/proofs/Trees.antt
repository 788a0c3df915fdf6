-- Binary trees whose nodes have labels at their paths, and what comes of them where a leaf is
-- changed, becomes a node with two leaves, or such a node a leaf.
-- Names: `path-LAW` speaks of paths, `at-LAW` of the tree at a path, `labels-LAW` of all labels,
-- `trees-LAW` of labels that are the union of some at one path and others.
use Rattle.std.specs.Prelude.{◌≡◌, Bool, true, false, cond, List, [], ◌∷◌, ◌++◌, Option, Some, None}
use Rattle.std.specs.Option.{option_map}
use Rattle.std.proofs.Common.{true≢false, sym, ap, ◌∙◌, refl, subst}
use Rattle.std.proofs.lemmas.Option.{same_Some}
use Rattle.sf_base.proofs.MapSplits.{changed, empty_map, empty-holds, map-same, splits-at_right, splits-empty_left, splits-lacks_both, splits-lacks_right, splits-put_left}
use Rattle.sf_base.specs.declared.path.Turn.{Turn}
use Rattle.sf_base.specs.declared.path.Turn.TheVariants.{Left as left, Right as right}
use Rattle.sf_base.specs.HeapStore.{Map, Splits}
use Rattle.sf_core.specs.Machine.Config.{Path}
use Rattle.sf_core.specs.Machine.Whole.{same_path, IsUnion}

-- Paths
-- the test whether two paths are one
abbrev pub at_path : Path → Path → Bool
at_path path = λ other. same_path other path

-- a path is itself
pub path-self : (path : Path) → at_path path path ≡ true
path-self [] = refl
path-self (left ∷ path) = path-self path
path-self (right ∷ path) = path-self path

-- paths that the test takes for one are one
pub path-same : (path other : Path) → at_path path other ≡ true → other ≡ path
path-same [] [] e = refl
path-same [] (turn ∷ other) e = absurd (true≢false (sym e))
path-same (turn ∷ path) [] e = absurd (true≢false (sym e))
path-same (left ∷ path) (left ∷ other) e = ap (λ z. left ∷ z) (path-same path other e)
path-same (left ∷ path) (right ∷ other) e = absurd (true≢false (sym e))
path-same (right ∷ path) (left ∷ other) e = absurd (true≢false (sym e))
path-same (right ∷ path) (right ∷ other) e = ap (λ z. right ∷ z) (path-same path other e)

-- a path with a turn more is another
path-longer : (path : Path) (turn : Turn) → at_path (path ++ turn ∷ []) path ≡ false
path-longer [] turn = refl
path-longer (left ∷ path) turn = path-longer path turn
path-longer (right ∷ path) turn = path-longer path turn

-- two children are at different paths
path-siblings : (path : Path) → at_path (path ++ right ∷ []) (path ++ left ∷ []) ≡ false
path-siblings [] = refl
path-siblings (left ∷ path) = path-siblings path
path-siblings (right ∷ path) = path-siblings path

-- Trees
-- a leaf or a node with two children, each with its label
pub data Tree (A : Type 0) : Type 0 where
  leaf : A → Tree A
  node : A → (one two : Tree A) → Tree A

module _ {A : Type 0} where
  -- the label at the root
  abbrev pub label : Tree A → A
  label (leaf x) = x
  label (node x one two) = x

  -- the tree at a path
  abbrev pub at : Path → Tree A → Option (Tree A)
  at [] t = Some t
  at (left ∷ path) (node x one two) = at path one
  at (right ∷ path) (node x one two) = at path two
  at (left ∷ path) (leaf x) = None
  at (right ∷ path) (leaf x) = None

  -- the tree with another at that path
  abbrev pub put : Path → Tree A → Tree A → Tree A
  put [] u t = u
  put (left ∷ path) u (node x one two) = node x (put path u one) two
  put (right ∷ path) u (node x one two) = node x one (put path u two)
  put (left ∷ path) u (leaf x) = leaf x
  put (right ∷ path) u (leaf x) = leaf x

  -- the labels by their paths
  abbrev pub labels : Tree A → Map Path A
  labels t = λ path. option_map label (at path t)

  -- one label alone
  abbrev pub entry : Path → A → Map Path A
  entry path x = changed (at_path path) (Some x) empty_map

  -- below a leaf there is nothing
  at-none : (path : Path) (turn : Turn) (t : Tree A) (x : A) → at path t ≡ Some (leaf x)
      → at (path ++ turn ∷ []) t ≡ None
  at-none [] left (leaf y) x e = refl
  at-none [] right (leaf y) x e = refl
  at-none [] turn (node y a b) x e = absurd (cc)
  at-none (left ∷ path) turn (leaf y) x e = absurd (cc)
  at-none (right ∷ path) turn (leaf y) x e = absurd (cc)
  at-none (left ∷ path) turn (node y a b) x e = at-none path turn a x e
  at-none (right ∷ path) turn (node y a b) x e = at-none path turn b x e

  -- a leaf with another label
  labels-leaf : (path q : Path) (t : Tree A) (x y : A) → at path t ≡ Some (leaf x)
      → labels (put path (leaf y) t) q ≡ cond (same_path q path) (Some y) (labels t q)
  labels-leaf [] [] t x y e = refl
  labels-leaf [] (left ∷ q) (leaf z) x y e = refl
  labels-leaf [] (right ∷ q) (leaf z) x y e = refl
  labels-leaf [] (turn ∷ q) (node z a b) x y e = absurd (cc)
  labels-leaf (left ∷ path) q (leaf z) x y e = absurd (cc)
  labels-leaf (right ∷ path) q (leaf z) x y e = absurd (cc)
  labels-leaf (left ∷ path) [] (node z a b) x y e = refl
  labels-leaf (left ∷ path) (left ∷ q) (node z a b) x y e = labels-leaf path q a x y e
  labels-leaf (left ∷ path) (right ∷ q) (node z a b) x y e = refl
  labels-leaf (right ∷ path) [] (node z a b) x y e = refl
  labels-leaf (right ∷ path) (left ∷ q) (node z a b) x y e = refl
  labels-leaf (right ∷ path) (right ∷ q) (node z a b) x y e = labels-leaf path q b x y e

  -- what is at a path and at those of its two children, and elsewhere as in a map
  abbrev three : Path → (at_it at_left at_right : Option A) → Map Path A → Map Path A
  three path x y z others = changed (at_path path) x (changed (at_path (path ++ left ∷ [])) y
      (changed (at_path (path ++ right ∷ [])) z others))

  -- a leaf becomes a node with two leaves
  labels-node : (path q : Path) (t : Tree A) (x y one two : A) → at path t ≡ Some (leaf x)
      → labels (put path (node y (leaf one) (leaf two)) t) q
      ≡ three path (Some y) (Some one) (Some two) (labels t) q
  labels-node [] [] t x y one two e = refl
  labels-node [] (left ∷ []) t x y one two e = refl
  labels-node [] (right ∷ []) t x y one two e = refl
  labels-node [] (left ∷ (left ∷ q)) (leaf z) x y one two e = refl
  labels-node [] (left ∷ (right ∷ q)) (leaf z) x y one two e = refl
  labels-node [] (right ∷ (left ∷ q)) (leaf z) x y one two e = refl
  labels-node [] (right ∷ (right ∷ q)) (leaf z) x y one two e = refl
  labels-node [] (turn ∷ (also ∷ q)) (node z a b) x y one two e = absurd (cc)
  labels-node (left ∷ path) q (leaf z) x y one two e = absurd (cc)
  labels-node (right ∷ path) q (leaf z) x y one two e = absurd (cc)
  labels-node (left ∷ path) [] (node z a b) x y one two e = refl
  labels-node (left ∷ path) (left ∷ q) (node z a b) x y one two e = labels-node path q a x y one two
      e
  labels-node (left ∷ path) (right ∷ q) (node z a b) x y one two e = refl
  labels-node (right ∷ path) [] (node z a b) x y one two e = refl
  labels-node (right ∷ path) (left ∷ q) (node z a b) x y one two e = refl
  labels-node (right ∷ path) (right ∷ q) (node z a b) x y one two e = labels-node path q b x y one
      two e

  -- a node with two leaves becomes a leaf
  labels-back : (path q : Path) (t : Tree A) (x y one two : A)
      → at path t ≡ Some (node x (leaf one) (leaf two))
      → labels (put path (leaf y) t) q ≡ three path (Some y) None None (labels t) q
  labels-back [] [] t x y one two e = refl
  labels-back [] (left ∷ []) t x y one two e = refl
  labels-back [] (right ∷ []) t x y one two e = refl
  labels-back [] (turn ∷ (also ∷ q)) (leaf z) x y one two e = absurd (cc)
  labels-back [] (left ∷ (left ∷ q)) (node z (leaf c) b) x y one two e = refl
  labels-back [] (left ∷ (right ∷ q)) (node z (leaf c) b) x y one two e = refl
  labels-back [] (left ∷ (turn ∷ q)) (node z (node c f g) b) x y one two e =
      let h : node z (node c f g) b ≡ node x (leaf one) (leaf two) =
      same_Some (node z (node c f g) b) (node x (leaf one) (leaf two)) e in absurd (cc)
  labels-back [] (right ∷ (left ∷ q)) (node z a (leaf c)) x y one two e = refl
  labels-back [] (right ∷ (right ∷ q)) (node z a (leaf c)) x y one two e = refl
  labels-back [] (right ∷ (turn ∷ q)) (node z a (node c f g)) x y one two e =
      let h : node z a (node c f g) ≡ node x (leaf one) (leaf two) =
      same_Some (node z a (node c f g)) (node x (leaf one) (leaf two)) e in absurd (cc)
  labels-back (left ∷ path) q (leaf z) x y one two e = absurd (cc)
  labels-back (right ∷ path) q (leaf z) x y one two e = absurd (cc)
  labels-back (left ∷ path) [] (node z a b) x y one two e = refl
  labels-back (left ∷ path) (left ∷ q) (node z a b) x y one two e = labels-back path q a x y one two
      e
  labels-back (left ∷ path) (right ∷ q) (node z a b) x y one two e = refl
  labels-back (right ∷ path) [] (node z a b) x y one two e = refl
  labels-back (right ∷ path) (left ∷ q) (node z a b) x y one two e = refl
  labels-back (right ∷ path) (right ∷ q) (node z a b) x y one two e = labels-back path q b x y one
      two e

  -- Labels at one path and others
  -- the entry at a path is there
  pub entry-here : (path : Path) (x : A) → entry path x path ≡ Some x
  entry-here path x = ap (λ b. cond b (Some x) None) (path-self path)

  -- a map with an entry more splits into that entry and the others
  one-more : (path : Path) (x : A) (others : Map Path A) → others path ≡ None
      → Splits (changed (at_path path) (Some x) others) (entry path x) others
  one-more path x others n =
      splits-put_left (at_path path) path (Some x) (path-same path) n
      (splits-empty_left empty-holds)

  -- outside of the entry's path the whole is as the others are
  others-at : (whole rest : Map Path A) (path : Path) (x : A) → Splits whole (entry path x) rest
      → (q : Path)
      → at_path path q ≡ false → whole q ≡ rest q
  others-at whole rest path x s q e = splits-at_right q s (ap (λ b. cond b (Some x) None) e)

  cond-tells : (b : Bool) (x y z : Option A) → (b ≡ false → y ≡ z) → cond b x y ≡ cond b x z
  cond-tells true x y z h = refl
  cond-tells false x y z h = h refl

  three-tells : (a b c : Bool) (x y z s t : Option A) → (a ≡ false → b ≡ false → c ≡ false → s ≡ t)
      → cond a x (cond b y (cond c z s)) ≡ cond a x (cond b y (cond c z t))
  three-tells true b c x y z s t h = refl
  three-tells false true c x y z s t h = refl
  three-tells false false true x y z s t h = refl
  three-tells false false false x y z s t h = h refl refl refl

  -- a leaf with another label
  pub trees-leaf : (t : Tree A) (path : Path) (x y : A) (more : List (Map Path A))
      → IsUnion (labels t) (entry path x ∷ more) → at path t ≡ Some (leaf x)
      → IsUnion (labels (put path (leaf y) t)) (entry path y ∷ more)
  trees-leaf t path x y more (o, s, u) there =
      let here : o path ≡ None = splits-lacks_right path x s (entry-here path x) in
      let after : labels (put path (leaf y) t) ≡ changed (at_path path) (Some y) o =
      map-same _ _ (λ q. labels-leaf path q t x y there
      ∙ cond-tells (same_path q path) (Some y) (labels t q) (o q)
      (others-at (labels t) o path x s q)) in
      (o, subst (λ z. Splits z (entry path y) o) (sym after) (one-more path y o here), u)

  -- the others have nothing at a child's path where there is a leaf
  lacks-child : (t : Tree A) (path : Path) (turn : Turn) (x : A) (own rest : Map Path A)
      → at path t ≡ Some (leaf x)
      → Splits (labels t) own rest → rest (path ++ turn ∷ []) ≡ None
  lacks-child t path turn x own rest e s =
      (splits-lacks_both (path ++ turn ∷ []) s (ap (option_map label) (at-none path turn t x e))).1

  -- a leaf becomes a node with two leaves
  pub trees-node : (t : Tree A) (path : Path) (x y one two : A) (more : List (Map Path A))
      → IsUnion (labels t) (entry path x ∷ more) → at path t ≡ Some (leaf x)
      → IsUnion (labels (put path (node y (leaf one) (leaf two)) t))
      (entry path y ∷ entry (path ++ left ∷ []) one ∷ entry (path ++ right ∷ []) two ∷ more)
  trees-node t path x y one two more (o, s, u) there =
      let here : o path ≡ None = splits-lacks_right path x s (entry-here path x) in
      let at_left = lacks-child t path left x (entry path x) o there s in
      let at_right = lacks-child t path right x (entry path x) o there s in
      let with_two : Map Path A = changed (at_path (path ++ right ∷ [])) (Some two) o in
      let with_one : Map Path A = changed (at_path (path ++ left ∷ [])) (Some one) with_two in
      let after : labels (put path (node y (leaf one) (leaf two)) t)
      ≡ three path (Some y) (Some one) (Some two) o =
      map-same _ _ (λ q. labels-node path q t x y one two there
      ∙ three-tells (same_path q path) (same_path q (path ++ left ∷ []))
      (same_path q (path ++ right ∷ []))
      (Some y) (Some one) (Some two) (labels t q) (o q)
      (λ f g h. others-at (labels t) o path x s q f)) in
      let second = one-more (path ++ right ∷ []) two o at_right in
      let first = one-more (path ++ left ∷ []) one with_two
      (ap (λ z. cond z (Some two) (o (path ++ left ∷ []))) (path-siblings path) ∙ at_left) in
      let own = one-more path y with_one
      (ap (λ z. cond z (Some one) (with_two path)) (path-longer path left)
      ∙ ap (λ z. cond z (Some two) (o path)) (path-longer path right) ∙ here) in (
        with_one,
        subst (λ z. Splits z (entry path y) with_one) (sym after) own,
        (with_two, first, (o, second, u)),
      )

  -- what isn't there at a key isn't there when the key is taken away
  here-none : (b : Bool) (y : Option A) → (b ≡ true → y ≡ None) → cond b None y ≡ y
  here-none true y h = sym (h refl)
  here-none false y h = refl

  -- a node with two leaves becomes a leaf
  pub trees-back : (t : Tree A) (path : Path) (x y one two : A) (more : List (Map Path A))
      → IsUnion (labels t) (entry path x ∷ entry (path ++ left ∷ []) one
      ∷ entry (path ++ right ∷ []) two ∷ more)
      → at path t ≡ Some (node x (leaf one) (leaf two))
      → IsUnion (labels (put path (leaf y) t)) (entry path y ∷ more)
  trees-back t path x y one two more (a, s, (b, r, (o, u, v))) there =
      let pl = path ++ left ∷ [] in
      let pr = path ++ right ∷ [] in
      let lacks_left : (q : Path) → same_path q pl ≡ true → o q ≡ None = λ q h.
      subst (λ z. o z ≡ None) (sym (path-same pl q h))
      (splits-lacks_both pl u (splits-lacks_right pl one r (entry-here pl one))).1 in
      let lacks_right : (q : Path) → same_path q pr ≡ true → o q ≡ None = λ q h.
      subst (λ z. o z ≡ None) (sym (path-same pr q h))
      (splits-lacks_right pr two u (entry-here pr two)) in
      let here : o path ≡ None = (splits-lacks_both path u (splits-lacks_both path r
      (splits-lacks_right path x s (entry-here path x))).1).1 in
      let after : labels (put path (leaf y) t) ≡ changed (at_path path) (Some y) o =
      map-same _ _ (λ q. labels-back path q t x y one two there
      ∙ three-tells (same_path q path) (same_path q pl) (same_path q pr) (Some y) None None
      (labels t q) (o q)
      (λ f g h. others-at (labels t) a path x s q f ∙ others-at a b pl one r q g
      ∙ others-at b o pr two u q h)
      ∙ ap (λ z. cond (same_path q path) (Some y) z)
      (ap (λ z. cond (same_path q pl) None z) (here-none (same_path q pr) (o q) (lacks_right q))
      ∙ here-none (same_path q pl) (o q) (lacks_left q))) in
      (o, subst (λ z. Splits z (entry path y) o) (sym after) (one-more path y o here), v)
