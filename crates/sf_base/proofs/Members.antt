-- What lists that are made of others contain.
-- Names: `contains-map` and `contains-flat_map` say what is there, `_from` where it comes from.
use Rattle.std.specs.Prelude.{◌≡◌, List, [], ◌∷◌, map, Contains}
use Rattle.std.specs.List.{flat_map}
use Rattle.std.proofs.Common.{inl, inr, refl, sym, ap, subst}
use Rattle.std.proofs.lemmas.List.Elements.{Contains-append_cases, Contains-append_left, Contains-append_right}
use Rattle.sf_base.proofs.Elements.{contains-nil, contains-cons}

pub contains-map : {A B : Type 0} (f : A → B) (xs : List A) (x : A) → Contains xs x → Contains (map f xs) (f x)
contains-map f [] x c = absurd (contains-nil x c)
contains-map f (y ∷ ys) x c = elim ((contains-cons y ys x).0 c) [
  | inl e ↦ (contains-cons (f y) (map f ys) (f x)).1 (inl (ap f e))
  | inr k ↦ (contains-cons (f y) (map f ys) (f x)).1 (inr (contains-map f ys x k))
]

pub contains-map_from : {A B : Type 0} (f : A → B) (xs : List A) (y : B) → Contains (map f xs) y
    → (x : A) × Contains xs x × (f x ≡ y)
contains-map_from f [] y c = absurd (contains-nil y c)
contains-map_from f (x ∷ xs) y c = elim ((contains-cons (f x) (map f xs) y).0 c) [
  | inl e ↦ (x, (contains-cons x xs x).1 (inl refl), e)
  | inr k ↦
      let h = contains-map_from f xs y k in
      (h.0, (contains-cons x xs h.0).1 (inr h.1), h.2)
]

pub contains-flat_map : {A B : Type 0} (f : A → List B) (xs : List A) (x : A) (y : B) → Contains xs x
    → Contains (f x) y → Contains (flat_map f xs) y
contains-flat_map f [] x y c k = absurd (contains-nil x c)
contains-flat_map {A} {B} f (z ∷ zs) x y c k = elim ((contains-cons z zs x).0 c) [
  | inl e ↦ Contains-append_left (f z) (flat_map f zs) y (subst (λ (t : A). Contains (f t) y) (sym e) k)
  | inr l ↦ Contains-append_right (f z) (flat_map f zs) y (contains-flat_map f zs x y l k)
]

pub contains-flat_map_from : {A B : Type 0} (f : A → List B) (xs : List A) (y : B)
    → Contains (flat_map f xs) y → (x : A) × Contains xs x × Contains (f x) y
contains-flat_map_from f [] y c = absurd (contains-nil y c)
contains-flat_map_from f (x ∷ xs) y c = elim (Contains-append_cases (f x) (flat_map f xs) y c) [
  | inl k ↦ (x, (contains-cons x xs x).1 (inl refl), k)
  | inr k ↦
      let h = contains-flat_map_from f xs y k in
      (h.0, (contains-cons x xs h.0).1 (inr h.1), h.2)
]
