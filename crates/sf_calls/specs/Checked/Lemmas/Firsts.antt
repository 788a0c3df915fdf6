-- What is first in a list: it is there and is so, and nothing is first exactly where nothing is so; there is
-- one at most.
use Rattle.std.proofs.Common.{◌≡◌, List, [], ◌∷◌, Option, Some, None, Contains, refl, sym, ap, inl, inr, ◌∙◌, subst}
use Rattle.sf_base.proofs.Elements.{contains-nil, contains-cons}
use Rattle.sf_calls.specs.First.{IsFirst}

pub first-found : {A X : Type 0} (P : X → Type 0) (f : X → A) (xs : List X) (a : A) → IsFirst P f xs (Some a)
    → (x : X) × Contains xs x × P x × (a ≡ f x)
first-found P f [] a h = absurd h
first-found P f (x ∷ xs) a (inl h) = (x, (contains-cons x xs x).1 (inl refl), h.0, h.1)
first-found P f (x ∷ xs) a (inr h) =
    let k = first-found P f xs a h.1 in
    (k.0, (contains-cons x xs k.0).1 (inr k.1), k.2, k.3)

pub none-of : {A X : Type 0} (P : X → Type 0) (f : X → A) (xs : List X) → IsFirst P f xs None → (x : X)
    → Contains xs x → P x → ⊥
none-of P f [] n x c h = contains-nil x c
none-of P f (y ∷ ys) n x c h = elim ((contains-cons y ys x).0 c) [
  | inl e ↦ n.0 (subst P (sym e) h)
  | inr k ↦ none-of P f ys n.1 x k h
]

pub of-none : {A X : Type 0} (P : X → Type 0) (f : X → A) (xs : List X)
    → ((x : X) → Contains xs x → P x → ⊥) → IsFirst P f xs None
of-none P f [] n = tt
of-none P f (x ∷ xs) n = (
  n x ((contains-cons x xs x).1 (inl refl)),
  of-none P f xs (λ y c. n y ((contains-cons x xs y).1 (inr c))),
)

pub first-unique : {A X : Type 0} (P : X → Type 0) (f : X → A) (xs : List X) (r q : Option A)
    → IsFirst P f xs r → IsFirst P f xs q → r ≡ q
first-unique P f [] None None h k = refl
first-unique P f [] None (Some b) h k = absurd k
first-unique P f [] (Some a) q h k = absurd h
first-unique P f (x ∷ xs) None None h k = refl
first-unique P f (x ∷ xs) None (Some b) h (inl k) = absurd (h.0 k.0)
first-unique P f (x ∷ xs) None (Some b) h (inr k) = first-unique P f xs None (Some b) h.1 k.1
first-unique P f (x ∷ xs) (Some a) None (inl h) k = absurd (k.0 h.0)
first-unique P f (x ∷ xs) (Some a) None (inr h) k = first-unique P f xs (Some a) None h.1 k.1
first-unique P f (x ∷ xs) (Some a) (Some b) (inl h) (inl k) = ap Some (h.1 ∙ sym k.1)
first-unique P f (x ∷ xs) (Some a) (Some b) (inl h) (inr k) = absurd (k.0 h.0)
first-unique P f (x ∷ xs) (Some a) (Some b) (inr h) (inl k) = absurd (h.0 k.0)
first-unique P f (x ∷ xs) (Some a) (Some b) (inr h) (inr k) = first-unique P f xs (Some a) (Some b) h.1 k.1

-- there is one proof at most that nothing is first
pub none-once : {A X : Type 0} (P : X → Type 0) (f : X → A) (xs : List X) → IsProp (IsFirst P f xs None)
none-once P f [] = hlevel
none-once P f (x ∷ xs) = hlevel (none-once P f xs)
