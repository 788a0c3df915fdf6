-- Ways along a relation of resources: how they are made, made shorter, and when they have a cycle.
-- Names: `way-LAW` of ways, `different-LAW` of resources none of which is there twice.
use Rattle.std.specs.Prelude.{◌≡◌, ◌⊎◌, ℕ, suc, ◌<◌, ◌≤◌, Bool, true, false, List, [], ◌∷◌, length, map, Contains}
use Rattle.std.specs.List.{AllByRecursion, IsDistinct, list_any}
use Rattle.std.proofs.Common.{sym, ap, refl, subst, inl, inr, eqb, arith}
use Rattle.std.proofs.lemmas.Bool.{or_cases}
use Rattle.std.proofs.lemmas.Bool.Decides.{eqb_tells}
use Rattle.std.proofs.lemmas.List.{length-map}
use Rattle.std.proofs.lemmas.Map.Steps.{length-le_from_distinct_below}
use Rattle.sf_base.proofs.Elements.{contains-cons, contains-nil}
use Rattle.sf_base.specs.declared.ids.ResId.{ResId}
use Rattle.sf_calls.specs.Checked.Listed.{is_entered}
use Rattle.sf_calls.specs.Checked.Lemmas.Decided.{entered_is, resource}
use Rattle.sf_order.specs.Cycles.{Leads, IsCycle}
use Rattle.sf_order.specs.Checked.Ways.{AreDifferent, Way}

-- whether a resource is one of those
contained : (x : ResId) (xs : List ResId) → Contains xs x ⊎ (Contains xs x → ⊥)
contained x xs = go (is_entered x xs) refl
  where
    go : (b : Bool) → is_entered x xs ≡ b → Contains xs x ⊎ (Contains xs x → ⊥)
    go true e = inl ((entered_is x xs).0 e)
    go false e = inr (λ c. let f : is_entered x xs ≡ true = (entered_is x xs).1 c in absurd cc)

-- different resources have different numbers
apart : (x : ResId) (xs : List ResId) → (Contains xs x → ⊥)
    → AllByRecursion (λ y. eqb x.0 y ≡ false) (map (λ (z : ResId). z.0) xs)
apart x [] n = tt
apart x (y ∷ ys) n = (
  elim (eqb_tells x.0 y.0) [
    | inl e ↦ absurd (n ((contains-cons y ys x).1 (inl (ap resource (sym e.1)))))
    | inr e ↦ e.0
  ],
  apart x ys (λ c. n ((contains-cons y ys x).1 (inr c))),
)

distinct : (xs : List ResId) → AreDifferent xs → IsDistinct eqb (map (λ (z : ResId). z.0) xs)
unfolding IsDistinct
distinct [] d = tt
distinct (x ∷ xs) d = (apart x xs d.0, distinct xs d.1)

-- the numbers of resources below n are
below : (n : ℕ) (xs : List ResId) → ((x : ResId) → Contains xs x → x.0 < n) → (q : ℕ)
    → list_any (eqb q) (map (λ (z : ResId). z.0) xs) ≡ true → q < n
below n [] h q e = absurd (cc)
below n (x ∷ xs) h q e = elim (or_cases (eqb q x.0) (list_any (eqb q) (map (λ (z : ResId). z.0) xs)) e) [
  | inl y ↦ elim (eqb_tells q x.0) [
    | inl i ↦
        let first : x.0 < n = h x ((contains-cons x xs x).1 (inl refl)) in
        let same : q ≡ x.0 = i.1 in
        omega arith
    | inr i ↦ let no : eqb q x.0 ≡ false = i.0 in absurd cc
  ]
  | inr y ↦ below n xs (λ z c. h z ((contains-cons x xs z).1 (inr c))) q y
]

-- so there are at most n of them
pub different-few : (n : ℕ) (xs : List ResId) → AreDifferent xs → ((x : ResId) → Contains xs x → x.0 < n)
    → length xs ≤ n
different-few n xs d h =
    let few : length (map (λ (z : ResId). z.0) xs) ≤ n =
    length-le_from_distinct_below (map (λ (z : ResId). z.0) xs) n (distinct xs d) (below n xs h) in
    let same : length (map (λ (z : ResId). z.0) xs) ≡ length xs = length-map xs (λ (z : ResId). z.0) in
    omega arith

module _ (R : ResId → ResId → Type 0) where
  -- a walk is a way
  pub way-leads : (x : ResId) (zs : List ResId) (y : ResId) → Leads R x zs y
      → (ys : List ResId) × (length ys ≡ suc (length zs)) × Way R x ys y
  way-leads x [] y h = (y ∷ [], refl, (h, refl))
  way-leads x (z ∷ zs) y h = let r = way-leads z zs y h.1 in (z ∷ r.0, ap suc r.1, (h.0, r.2))

  -- one more step at the end
  pub way-more : (x : ResId) (ys : List ResId) (y z : ResId) → Way R x ys y → R y z
      → (zs : List ResId) × (length zs ≡ suc (length ys)) × Way R x zs z
  way-more x [] y z e h = (z ∷ [], refl, (subst (λ (w : ResId). R w z) (sym e) h, refl))
  way-more x (w ∷ ys) y z e h = let r = way-more w ys y z e.1 h in (w ∷ r.0, ap suc r.1, (e.0, r.2))

  -- the rest of a way from a resource on it
  way-from : (y : ResId) (zs : List ResId) (v x : ResId) → Way R y zs v → AreDifferent (y ∷ zs)
      → Contains (y ∷ zs) x → (us : List ResId) × Way R x us v × AreDifferent (x ∷ us)
  way-from y [] v x w d c = elim ((contains-cons y [] x).0 c) [
    | inl e ↦ subst (λ (t : ResId). (us : List ResId) × Way R t us v × AreDifferent (t ∷ us)) e ([], w, d)
    | inr m ↦ absurd (contains-nil x m)
  ]
  way-from y (z ∷ zs) v x w d c = elim ((contains-cons y (z ∷ zs) x).0 c) [
    | inl e ↦ subst (λ (t : ResId). (us : List ResId) × Way R t us v × AreDifferent (t ∷ us)) e (z ∷ zs, w, d)
    | inr m ↦ way-from z zs v x w.1 d.1 m
  ]

  -- a way without what goes in circles
  way-trims : (x : ResId) (ys : List ResId) (v : ResId) → Way R x ys v
      → (us : List ResId) × Way R x us v × AreDifferent (x ∷ us)
  way-trims x [] v e = ([], e, (λ c. contains-nil x c, tt))
  way-trims x (y ∷ ys) v h = let r = way-trims y ys v h.1 in elim (contained x (y ∷ r.0)) [
    | inl m ↦ way-from y r.0 v x r.1 r.2 m
    | inr n ↦ (y ∷ r.0, (h.0, r.1), (n, r.2))
  ]

  -- the walk to a resource on a way
  way-closes : (w y : ResId) (ys : List ResId) (v x : ResId) → R w y → Way R y ys v → Contains (y ∷ ys) x
      → (us : List ResId) × Leads R w us x
  way-closes w y [] v x r h c = elim ((contains-cons y [] x).0 c) [
    | inl e ↦ ([], subst (R w) e r)
    | inr m ↦ absurd (contains-nil x m)
  ]
  way-closes w y (z ∷ zs) v x r h c = elim ((contains-cons y (z ∷ zs) x).0 c) [
    | inl e ↦ ([], subst (R w) e r)
    | inr m ↦ let k = way-closes y z zs v x h.0 h.1 m in (y ∷ k.0, (r, k.1))
  ]

  -- a way goes through different resources, or there is a cycle
  way-different : (x : ResId) (ys : List ResId) (v : ResId) → Way R x ys v
      → AreDifferent (x ∷ ys) ⊎ ((zs : List ResId) × IsCycle R zs)
  way-different x [] v e = inl (λ c. contains-nil x c, tt)
  way-different x (y ∷ ys) v h = elim (way-different y ys v h.1) [
    | inr c ↦ inr c
    | inl d ↦ elim (contained x (y ∷ ys)) [
      | inl m ↦ let k = way-closes x y ys v x h.0 h.1 m in inr (x ∷ k.0, k.1)
      | inr n ↦ inl (n, d)
    ]
  ]

  module _ (n : ℕ) (within : (x y : ResId) → R x y → (x.0 < n) × (y.0 < n)) where
    -- all that is on a way is below n
    way-within : (x : ResId) (ys : List ResId) (v : ResId) → x.0 < n → Way R x ys v → (z : ResId)
        → Contains (x ∷ ys) z → z.0 < n
    way-within x [] v l w z c = elim ((contains-cons x [] z).0 c) [
      | inl e ↦ subst (λ (t : ResId). t.0 < n) e l
      | inr m ↦ absurd (contains-nil z m)
    ]
    way-within x (y ∷ ys) v l w z c = elim ((contains-cons x (y ∷ ys) z).0 c) [
      | inl e ↦ subst (λ (t : ResId). t.0 < n) e l
      | inr m ↦ way-within y ys v (within x y w.0).1 w.1 z m
    ]

    -- a way of n steps goes in a circle
    pub way-cycle : (x : ResId) (ys : List ResId) (v : ResId) → Way R x ys v → x.0 < n → n ≤ length ys
        → (zs : List ResId) × IsCycle R zs
    way-cycle x ys v w l long = elim (way-different x ys v w) [
      | inr c ↦ c
      | inl d ↦
          let few : length (x ∷ ys) ≤ n = different-few n (x ∷ ys) d (way-within x ys v l w) in
          absurd (omega arith)
    ]

    -- there is one of fewer steps
    pub way-short : (x : ResId) (ys : List ResId) (v : ResId) → Way R x ys v → x.0 < n
        → (us : List ResId) × Way R x us v × (length us < n)
    way-short x ys v w l =
        let k = way-trims x ys v w in
        let few : length (x ∷ k.0) ≤ n = different-few n (x ∷ k.0) k.2 (way-within x k.0 v l k.1) in
        (k.0, k.1, omega arith)
