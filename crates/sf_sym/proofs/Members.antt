-- What is among the elements of a list, and which of them a test finds.
use Rattle.std.proofs.Common.{◌≡◌, ◌⊎◌, inl, inr, Bool, true, false, cond, List, [], ◌∷◌, ◌++◌, map, filter, refl, sym, ap, ◌∙◌}
use Rattle.std.specs.List.{list_any}
use Rattle.std.proofs.lemmas.Bool.{or_cases, or_left, or_right}
use Rattle.sf_base.proofs.Bools.{bool-same}
use Rattle.sf_sym.specs.Checked.Keeping.{In}

-- a truth value that isn't true
pub not-true : (a : Bool) → (a ≡ true → ⊥) → a ≡ false
not-true true f = absurd (f refl)
not-true false f = refl

pub not-false : (a : Bool) → (a ≡ false → ⊥) → a ≡ true
not-false true f = refl
not-false false f = absurd (f refl)

pub clash : (a : Bool) → a ≡ true → a ≡ false → ⊥
clash a e f = let one : true ≡ false = sym e ∙ f in absurd (cc)

module _ {A : Type 0} where
  pub in-left : (x : A) (xs ys : List A) → In x xs → In x (xs ++ ys)
  in-left x [] ys h = absurd h
  in-left x (y ∷ xs) ys (inl e) = inl e
  in-left x (y ∷ xs) ys (inr h) = inr (in-left x xs ys h)

  pub in-right : (x : A) (xs ys : List A) → In x ys → In x (xs ++ ys)
  in-right x [] ys h = h
  in-right x (y ∷ xs) ys h = inr (in-right x xs ys h)

  pub in-cases : (x : A) (xs ys : List A) → In x (xs ++ ys) → In x xs ⊎ In x ys
  in-cases x [] ys h = inr h
  in-cases x (y ∷ xs) ys (inl e) = inl (inl e)
  in-cases x (y ∷ xs) ys (inr h) = elim (in-cases x xs ys h) [ inl g ↦ inl (inr g) | inr g ↦ inr g ]

  pub in-last : (x : A) (xs : List A) → In x (xs ++ x ∷ [])
  in-last x xs = in-right x xs (x ∷ []) (inl refl)

  pub in-push : (x : A) (xs : List A) (y : A) → In x (xs ++ y ∷ []) → In x xs ⊎ (x ≡ y)
  in-push x xs y h = elim (in-cases x xs (y ∷ []) h) [
    | inl g ↦ inl g
    | inr g ↦ elim g [ inl e ↦ inr e | inr z ↦ absurd z ]
  ]

  pub in-filter : (p : A → Bool) (x : A) (xs : List A) → In x (filter p xs) → In x xs × (p x ≡ true)
  in-filter p x [] h = absurd h
  in-filter p x (y ∷ xs) h = go (p y) refl (in-filter p x xs) h
    where
      go : (b : Bool) → p y ≡ b → (In x (filter p xs) → In x xs × (p x ≡ true))
          → In x (cond b (y ∷ filter p xs) (filter p xs)) → In x (y ∷ xs) × (p x ≡ true)
      go true e rest (inl same) = (inl same, ap p same ∙ e)
      go true e rest (inr g) = let r = rest g in (inr r.0, r.1)
      go false e rest g = let r = rest g in (inr r.0, r.1)

  pub filter-in : (p : A → Bool) (x : A) (xs : List A) → In x xs → p x ≡ true → In x (filter p xs)
  filter-in p x [] h t = h
  filter-in p x (y ∷ xs) h t = go (p y) refl (λ g. filter-in p x xs g t) h
    where
      go : (b : Bool) → p y ≡ b → (In x xs → In x (filter p xs)) → In x (y ∷ xs)
          → In x (cond b (y ∷ filter p xs) (filter p xs))
      go true e rest (inl same) = inl same
      go true e rest (inr g) = inr (rest g)
      go false e rest (inl same) = absurd (clash (p x) t (ap p same ∙ e))
      go false e rest (inr g) = rest g

  pub any-in : (p : A → Bool) (xs : List A) → list_any p xs ≡ true → (a : A) × In a xs × (p a ≡ true)
  any-in p [] e = absurd (cc)
  any-in p (x ∷ xs) e = elim (or_cases (p x) (list_any p xs) e) [
    | inl h ↦ (x, inl refl, h)
    | inr h ↦ (let r = any-in p xs h in (r.0, inr r.1, r.2))
  ]

  pub in-any : (p : A → Bool) (xs : List A) (a : A) → In a xs → p a ≡ true → list_any p xs ≡ true
  in-any p [] a h e = absurd h
  in-any p (x ∷ xs) a (inl same) e = or_left (p x) (list_any p xs) (ap p (sym same) ∙ e)
  in-any p (x ∷ xs) a (inr h) e = or_right (p x) (list_any p xs) (in-any p xs a h e)

-- two tests find something where each thing that the one finds stands for one that the other finds
pub same-any : {A B : Type 0} (p : A → Bool) (q : B → Bool) (xs : List A) (ys : List B)
    → ((a : A) → In a xs → p a ≡ true → (b : B) × In b ys × (q b ≡ true))
    → ((b : B) → In b ys → q b ≡ true → (a : A) × In a xs × (p a ≡ true))
    → list_any p xs ≡ list_any q ys
same-any p q xs ys to from =
    bool-same (list_any p xs) (list_any q ys)
    (λ e. let r = any-in p xs e in let b = to r.0 r.1 r.2 in in-any q ys b.0 b.1 b.2)
    (λ e. let r = any-in q ys e in let a = from r.0 r.1 r.2 in in-any p xs a.0 a.1 a.2)

pub in-map : {A B : Type 0} (f : A → B) (b : B) (xs : List A) → In b (map f xs) → (a : A) × In a xs × (f a ≡ b)
in-map f b [] h = absurd h
in-map f b (x ∷ xs) (inl e) = (x, inl refl, sym e)
in-map f b (x ∷ xs) (inr h) = let r = in-map f b xs h in (r.0, inr r.1, r.2)

pub map-in : {A B : Type 0} (f : A → B) (a : A) (xs : List A) → In a xs → In (f a) (map f xs)
map-in f a [] h = h
map-in f a (x ∷ xs) (inl e) = inl (ap f e)
map-in f a (x ∷ xs) (inr h) = inr (map-in f a xs h)
