-- What is so or isn't: by a test, by its parts, or by one of a list; and the part of a list that has a
-- decidable property.
-- Names: `decidable_PART` says of what is built of PART that it is decidable.
use Rattle.std.proofs.Common.{◌≡◌, ◌⊎◌, ◌↔◌, Bool, true, false, List, [], ◌∷◌, Option, Some, None, Contains, refl, sym, inl, inr, subst}
use Rattle.std.specs.Bool.{Decides}
use Rattle.std.proofs.lemmas.Option.{same_Some, none-some}
use Rattle.sf_base.proofs.Elements.{contains-nil, contains-cons}
use Rattle.sf_calls.specs.Sets.{IsSetOf}
use Rattle.sf_calls.specs.Checked.Lemmas.InOrder.{Ordered, pairs_ordered}

-- it is so, or it isn't
abbrev pub IsDecidable : Type 0 → Type 0
IsDecidable P = P ⊎ (P → ⊥)

-- what a test decides
pub decidable_by : {P : Type 0} (b : Bool) → Decides b P → IsDecidable P
decidable_by true d = inl (d.0 refl)
decidable_by false d = inr (λ p. let e : false ≡ true = d.1 p in absurd (cc))

-- what is decidable by another name
pub decidable_like : {P Q : Type 0} → (P → Q) → (Q → P) → IsDecidable P → IsDecidable Q
decidable_like to from (inl p) = inl (to p)
decidable_like to from (inr n) = inr (λ q. n (from q))

-- two facts
pub decidable_both : {P Q : Type 0} → IsDecidable P → IsDecidable Q → IsDecidable (P × Q)
decidable_both (inr n) q = inr (λ h. n h.0)
decidable_both (inl p) (inl q) = inl (p, q)
decidable_both (inl p) (inr n) = inr (λ h. n h.1)

-- one of two facts
pub decidable_one : {P Q : Type 0} → IsDecidable P → IsDecidable Q → IsDecidable (P ⊎ Q)
decidable_one (inl p) q = inl (inl p)
decidable_one (inr n) (inl q) = inl (inr q)
decidable_one (inr n) (inr m) = inr (λ h. elim h [ inl p ↦ n p | inr q ↦ m q ])

-- that one of a list has a property
pub decidable_some : {A : Type 0} (P : A → Type 0) → ((x : A) → IsDecidable (P x)) → (xs : List A)
    → IsDecidable ((x : A) × Contains xs x × P x)
decidable_some P tell [] = inr (λ h. contains-nil h.0 h.1)
decidable_some {A} P tell (y ∷ ys) =
    decidable_like to from (decidable_one (tell y) (decidable_some P tell ys))
  where
    to : P y ⊎ ((x : A) × Contains ys x × P x) → (x : A) × Contains (y ∷ ys) x × P x
    to (inl p) = (y, (contains-cons y ys y).1 (inl refl), p)
    to (inr h) = (h.0, (contains-cons y ys h.0).1 (inr h.1), h.2)

    from : (x : A) × Contains (y ∷ ys) x × P x → P y ⊎ ((x : A) × Contains ys x × P x)
    from h =
        elim ((contains-cons y ys h.0).0 h.1) [
          | inl e ↦ inl (subst P (sym e) h.2)
          | inr c ↦ inr (h.0, c, h.2)
        ]

-- what is there, and passes the test
abbrev pub passes : {A : Type 0} → (A → Bool) → Option A → Bool
passes t None = false
passes t (Some x) = t x

-- it decides whether something is there that has the property
pub passes_is : {A : Type 0} (t : A → Bool) (P : A → Type 0) → ((x : A) → Decides (t x) (P x))
    → (o : Option A) → Decides (passes t o) ((x : A) × (o ≡ Some x) × P x)
passes_is t P is None = (λ e. absurd (cc), λ h. absurd (none-some h.0 h.1))
passes_is t P is (Some x) =
    (λ e. (x, refl, (is x).0 e), λ h. (is x).1 (subst P (sym (same_Some x h.0 h.1)) h.2))

-- what is listed for what is there
abbrev pub listed : {A B : Type 0} → (A → List B) → Option A → List B
listed f None = []
listed f (Some x) = f x

-- it has what the list relates to something that is there
pub listed_is : {A B : Type 0} (f : A → List B) (P : A → B → Type 0)
    → ((x : A) (y : B) → Contains (f x) y ↔ P x y) → (o : Option A) (y : B)
    → Contains (listed f o) y ↔ ((x : A) × (o ≡ Some x) × P x y)
listed_is f P is None y = (λ c. absurd (contains-nil y c), λ h. absurd (none-some h.0 h.1))
listed_is {A} f P is (Some x) y = (
  λ c. (x, refl, (is x y).0 c),
  λ h. (is x y).1
      (subst (λ (z : A). P z y) (sym (same_Some x h.0 h.1)) h.2),
)

-- those of a list that have a property, in its order
kept_of : {A : Type 0} (B : A → A → Type 0) (P : A → Type 0) → ((x : A) → IsDecidable (P x))
    → (all : List A) → Ordered B all
    → (xs : List A) × Ordered B xs × ((x : A) → Contains xs x ↔ (Contains all x × P x))
kept_of B P tell [] o = ([], tt, λ x. (λ c. absurd (contains-nil x c), λ h. absurd (contains-nil x h.0)))
kept_of {A} B P tell (y ∷ ys) o = go (kept_of B P tell ys o.1) (tell y)
  where
    go : (xs : List A) × Ordered B xs × ((x : A) → Contains xs x ↔ (Contains ys x × P x))
        → IsDecidable (P y)
        → (xs : List A) × Ordered B xs × ((x : A) → Contains xs x ↔ (Contains (y ∷ ys) x × P x))
    go (xs, ordered, members) (inl p) =
        (y ∷ xs, (λ z c. o.0 z ((members z).0 c).0, ordered), λ x. (to x, from x))
      where
        to : (x : A) → Contains (y ∷ xs) x → Contains (y ∷ ys) x × P x
        to x c = elim ((contains-cons y xs x).0 c) [
          | inl e ↦ ((contains-cons y ys x).1 (inl e), subst P e p)
          | inr k ↦ ((contains-cons y ys x).1 (inr ((members x).0 k).0), ((members x).0 k).1)
        ]

        from : (x : A) → Contains (y ∷ ys) x × P x → Contains (y ∷ xs) x
        from x h = elim ((contains-cons y ys x).0 h.0) [
          | inl e ↦ (contains-cons y xs x).1 (inl e)
          | inr k ↦ (contains-cons y xs x).1 (inr ((members x).1 (k, h.1)))
        ]
    go (xs, ordered, members) (inr n) = (xs, ordered, λ x. (to x, from x))
      where
        to : (x : A) → Contains xs x → Contains (y ∷ ys) x × P x
        to x c = ((contains-cons y ys x).1 (inr ((members x).0 c).0), ((members x).0 c).1)

        from : (x : A) → Contains (y ∷ ys) x × P x → Contains xs x
        from x h =
            elim ((contains-cons y ys x).0 h.0) [
              | inl e ↦ absurd (n (subst P (sym e) h.1))
              | inr k ↦ (members x).1 (k, h.1)
            ]

-- a decidable property that only some of an ordered list have has its set
pub set_there : {A : Type 0} (B : A → A → Type 0) (P : A → Type 0) → ((x : A) → IsDecidable (P x))
    → (all : List A) → Ordered B all → ((x : A) → P x → Contains all x) → (xs : List A) × IsSetOf B P xs
set_there B P tell all o within =
    let kept = kept_of B P tell all o in (
      kept.0,
      record {
        ordered = pairs_ordered B kept.0 kept.1;
        members = λ x.
            (λ c. ((kept.2 x).0 c).1, λ p. (kept.2 x).1 (within x p, p));
      },
    )
