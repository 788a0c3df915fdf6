-- Lists in which each element stands once: what comes before what, and what is left without one of them.
-- Names: `before-LAW` of what comes before what, `once-LAW` of lists with each element once, `middle` is a list with an
-- element between two parts of it.
use Rattle.std.specs.Prelude.{◌≡◌, ◌⊎◌, List, [], ◌∷◌, ◌++◌, map, Contains}
use Rattle.std.proofs.Common.{inl, inr, refl, sym, ap, subst}
use Rattle.std.proofs.lemmas.List.Elements.{Contains-append_cases, Contains-append_left, Contains-append_right}
use Rattle.sf_base.proofs.Elements.{contains-nil, contains-cons, contains-rest}
use Rattle.sf_base.proofs.Lists.{cons-same}
use Rattle.sf_base.proofs.Members.{contains-map, contains-map_from}
use Rattle.sf_journal.specs.Before.{IsBefore}

-- each element stands in the list once
abbrev pub IsOnce : {X : Type 0} → List X → Type 0
IsOnce [] = Unit {0}
IsOnce (x ∷ xs) = (Contains xs x → ⊥) × IsOnce xs

-- the list is one part, the element, and the other part
pub record Parts {X : Type 0} (xs : List X) (x : X) : Type 0 where
  pub front : List X
  pub back : List X
  pub are : xs ≡ front ++ x ∷ back

module _ {X : Type 0} where
  pub contains-first : (x : X) (xs : List X) → Contains (x ∷ xs) x
  contains-first x xs = (contains-cons x xs x).1 (inl refl)

  pub contains-parts : (xs : List X) (x : X) → Contains xs x → Parts xs x
  contains-parts [] x h = absurd (contains-nil x h)
  contains-parts (y ∷ xs) x h = elim ((contains-cons y xs x).0 h) [
    | inl e ↦ record { front = []; back = xs; are = ap (λ z. z ∷ xs) e }
    | inr k ↦
        let w = contains-parts xs x k in
        record { front = y ∷ w.front; back = w.back; are = ap (λ zs. y ∷ zs) w.are }
  ]

  -- A list with an element in the middle
  pub contains-middle : (xs ys : List X) (x a : X) → Contains (xs ++ ys) a → Contains (xs ++ x ∷ ys) a
  contains-middle xs ys x a h = elim (Contains-append_cases xs ys a h) [
    | inl k ↦ Contains-append_left xs (x ∷ ys) a k
    | inr k ↦ Contains-append_right xs (x ∷ ys) a (contains-rest x ys a k)
  ]

  pub contains-middle_first : (xs ys : List X) (x : X) → Contains (xs ++ x ∷ ys) x
  contains-middle_first xs ys x = Contains-append_right xs (x ∷ ys) x (contains-first x ys)

  pub contains-middle_cases : (xs ys : List X) (x a : X) → Contains (xs ++ x ∷ ys) a
      → (x ≡ a) ⊎ Contains (xs ++ ys) a
  contains-middle_cases xs ys x a h = elim (Contains-append_cases xs (x ∷ ys) a h) [
    | inl k ↦ inr (Contains-append_left xs ys a k)
    | inr k ↦ elim ((contains-cons x ys a).0 k) [
      | inl e ↦ inl e
      | inr l ↦ inr (Contains-append_right xs ys a l)
    ]
  ]

  pub once-middle : (xs ys : List X) (x : X) → IsOnce (xs ++ x ∷ ys)
      → (Contains (xs ++ ys) x → ⊥) × IsOnce (xs ++ ys)
  once-middle [] ys x h = h
  once-middle (y ∷ xs) ys x h =
      let k = once-middle xs ys x h.1 in (
        λ l. elim ((contains-cons y (xs ++ ys) x).0 l) [
          | inl e ↦ h.0 (subst (λ z. Contains (xs ++ x ∷ ys) z) (sym e) (contains-middle_first xs ys x))
          | inr m ↦ k.0 m
        ],
        (λ l. h.0 (contains-middle xs ys x y l), k.1),
      )

  -- what comes before what without it does so with it
  pub before-middle : (xs ys : List X) (x a b : X) → IsBefore (xs ++ ys) a b → IsBefore (xs ++ x ∷ ys) a b
  before-middle [] ys x a b h = inr h
  before-middle (y ∷ xs) ys x a b (inl h) = inl (h.0, contains-middle xs ys x b h.1)
  before-middle (y ∷ xs) ys x a b (inr h) = inr (before-middle xs ys x a b h)

  -- what stands in the front comes before it
  pub before-front : (xs ys : List X) (x a : X) → Contains xs a → IsBefore (xs ++ x ∷ ys) a x
  before-front [] ys x a h = absurd (contains-nil a h)
  before-front (y ∷ xs) ys x a h = elim ((contains-cons y xs a).0 h) [
    | inl e ↦ inl (e, contains-middle_first xs ys x)
    | inr k ↦ inr (before-front xs ys x a k)
  ]

  -- Both stand in the list
  pub before-there : (xs : List X) (a b : X) → IsBefore xs a b → Contains xs a × Contains xs b
  before-there [] a b h = absurd h
  before-there (x ∷ xs) a b (inl h) = ((contains-cons x xs a).1 (inl h.0), contains-rest x xs b h.1)
  before-there (x ∷ xs) a b (inr h) =
      let k = before-there xs a b h in
      (contains-rest x xs a k.0, contains-rest x xs b k.1)

  -- the first of a list comes after none
  pub before-first : (x : X) (xs : List X) (a : X) → IsOnce (x ∷ xs) → IsBefore (x ∷ xs) a x → ⊥
  before-first x xs a once (inl h) = once.0 h.1
  before-first x xs a once (inr h) = once.0 (before-there xs a x h).1

  -- of two different elements the one comes before the other
  pub before-or_after : (xs : List X) (a b : X) → Contains xs a → Contains xs b
      → (a ≡ b) ⊎ (IsBefore xs a b ⊎ IsBefore xs b a)
  before-or_after [] a b h k = absurd (contains-nil a h)
  before-or_after (x ∷ xs) a b h k = elim ((contains-cons x xs a).0 h) [
    | inl e ↦ elim ((contains-cons x xs b).0 k) [
      | inl f ↦ inl (cc)
      | inr l ↦ inr (inl (inl (e, l)))
    ]
    | inr g ↦ elim ((contains-cons x xs b).0 k) [
      | inl f ↦ inr (inr (inl (f, g)))
      | inr l ↦ elim (before-or_after xs a b g l) [
        | inl e ↦ inl e
        | inr w ↦ elim w [ inl v ↦ inr (inl (inr v)) | inr v ↦ inr (inr (inr v)) ]
      ]
    ]
  ]

-- Lists of what elements stand for
module _ {A B : Type 0} (f : A → B) where
  -- what comes before what among them is of elements of which the one comes before the other
  pub before-map_from : (xs : List A) (y z : B) → IsBefore (map f xs) y z
      → (a : A) × (b : A) × IsBefore xs a b × (f a ≡ y) × (f b ≡ z)
  before-map_from [] y z h = absurd h
  before-map_from (x ∷ xs) y z (inl h) =
      let w = contains-map_from f xs z h.1 in
      (x, w.0, inl (refl, w.1), h.0, w.2)
  before-map_from (x ∷ xs) y z (inr h) =
      let w = before-map_from xs y z h in
      (w.0, w.1, inr w.2, w.3, w.4)

  pub before-map : (xs : List A) (a b : A) → IsBefore xs a b → IsBefore (map f xs) (f a) (f b)
  before-map [] a b h = absurd h
  before-map (x ∷ xs) a b (inl h) = inl (ap f h.0, contains-map f xs b h.1)
  before-map (x ∷ xs) a b (inr h) = inr (before-map xs a b h)

  -- a list of what elements of another stand for stands for elements of that one
  pub contains-lift : (xs : List A) (ys : List B) → ((y : B) → Contains ys y → Contains (map f xs) y)
      → (zs : List A) × (map f zs ≡ ys) × ((a : A) → Contains zs a → Contains xs a)
  contains-lift xs [] h = ([], refl, λ a k. absurd (contains-nil a k))
  contains-lift xs (y ∷ ys) h =
      let w = contains-map_from f xs y (h y (contains-first y ys)) in
      let rest = contains-lift xs ys (λ z k. h z (contains-rest y ys z k)) in (
        w.0 ∷ rest.0,
        cons-same (f w.0) y (map f rest.0) ys w.2 rest.1,
        λ a k. elim ((contains-cons w.0 rest.0 a).0 k) [
          | inl e ↦ subst (Contains xs) e w.1
          | inr l ↦ rest.2 a l
        ],
      )
