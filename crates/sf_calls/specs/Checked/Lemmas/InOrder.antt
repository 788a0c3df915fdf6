-- The resources and their variables in order.
use Rattle.std.proofs.Common.{◌≡◌, ◌≢◌, ◌⊎◌, ◌<◌, ◌+◌, ◌^◌, ℕ, suc, List, [], ◌∷◌, ◌++◌, length, get_or, Some, slice_get, Contains, All, AllPairs, refl, sym, ap, inl, inr, subst, arith}
use Rattle.std.proofs.lemmas.Bool.Decides.{eqb_tells}
use Rattle.std.proofs.lemmas.List.Elements.{Contains-append_cases, Contains-append_left, Contains-append_right, Contains-push, Contains-push_cases, Contains-get_or}
use Rattle.std.proofs.lemmas.List.Kept.{AllPairs-cons}
use Rattle.std.proofs.lemmas.List.Quantifiers.{all_pairs_push}
use Rattle.std.proofs.lemmas.List.Sums.{get_or-le-sum_by}
use Rattle.std.proofs.lemmas.Option.{slice_get_within, get_or_from_slice_get}
use Rattle.sf_base.proofs.Elements.{contains-nil, contains-single_of}
use Rattle.sf_base.specs.declared.ids.ResId.{ResId}
use Rattle.sf_base.specs.declared.ids.Var.{Var}
use Rattle.sf_base.specs.declared.ids.Var.TheVariants.{Own, Shared}
use Rattle.sf_core.specs.Program.Formed.{IsFormed}
use Rattle.sf_core.specs.Program.Syntax.{Program, Resource}
use Rattle.sf_calls.specs.Conditions.{IsShared}
use Rattle.sf_calls.specs.Checked.Gathers.{IsUpTo}
use Rattle.sf_calls.specs.Sets.{IsSetOf, IsEarlier, IsEarlierResource}
use Rattle.sf_calls.specs.Checked.Lemmas.Decided.{resource}

-- one more element, after the others
pub set_push : {A : Type 0} (B : A → A → Type 0) (P Q : A → Type 0) (xs : List A) (y : A) → IsSetOf B P xs
    → ((x : A) → P x → B x y) → ((x : A) → Q x → P x ⊎ (x ≡ y)) → ((x : A) → P x → Q x) → Q y
    → IsSetOf B Q (xs ++ y ∷ [])
set_push {A} B P Q xs y s before from_q to_q here = record {
  ordered =
      all_pairs_push B xs y s.ordered
      (λ k d below. before (get_or xs k d)
      ((s.members (get_or xs k d)).0 (Contains-get_or xs k d below)));
  members = λ x. (to x, from x);
}
  where
    to : (x : A) → Contains (xs ++ y ∷ []) x → Q x
    to x c =
        elim (Contains-push_cases xs y x c) [ inl h ↦ to_q x ((s.members x).0 h) | inr h ↦ subst Q h here ]

    from : (x : A) → Q x → Contains (xs ++ y ∷ []) x
    from x q = elim (from_q x q) [
      | inl h ↦ Contains-append_left xs (y ∷ []) x ((s.members x).1 h)
      | inr h ↦ subst (λ (z : A). Contains (xs ++ y ∷ []) z) (sym h) (Contains-push xs y)
    ]

-- the same set by another description
pub set_same : {A : Type 0} (B : A → A → Type 0) (P Q : A → Type 0) (xs : List A) → IsSetOf B P xs
    → ((x : A) → P x → Q x) → ((x : A) → Q x → P x) → IsSetOf B Q xs
set_same B P Q xs s to from =
    record {
      ordered = s.ordered;
      members = λ x. (λ c. to x ((s.members x).0 c), λ q. (s.members x).1 (from x q));
    }

-- the empty set
pub set_none : {A : Type 0} (B : A → A → Type 0) (P : A → Type 0) → ((x : A) → P x → ⊥) → IsSetOf B P []
set_none B P none =
    record {
      ordered = λ i j d h k. absurd (omega (arith, k));
      members = λ x. (λ c. absurd (contains-nil x c), λ p. absurd (none x p));
    }

-- each element comes before those that come after it
abbrev pub Ordered : {X : Type 0} → (X → X → Type 0) → List X → Type 0
Ordered B [] = Unit {0}
Ordered {X} B (x ∷ xs) = ((y : X) → Contains xs y → B x y) × Ordered B xs

-- of two such lists one
pub ordered_append : {X : Type 0} (B : X → X → Type 0) (xs ys : List X) → Ordered B xs → Ordered B ys
    → ((x y : X) → Contains xs x → Contains ys y → B x y) → Ordered B (xs ++ ys)
ordered_append B [] ys a b across = b
ordered_append B (x ∷ xs) ys a b across = (
  λ y c. elim (Contains-append_cases xs ys y c) [
    | inl k ↦ a.0 y k
    | inr k ↦ across x y (Contains-append_left (x ∷ []) xs x (contains-single_of x x refl)) k
  ],
  ordered_append B xs ys a.1 b (λ z y c k. across z y (Contains-append_right (x ∷ []) xs z c) k),
)

-- both forms of the order say the same
pub ordered_pairs : {X : Type 0} (B : X → X → Type 0) (xs : List X) → AllPairs B xs → Ordered B xs
ordered_pairs B [] pairs = tt
ordered_pairs {X} B (x ∷ xs) pairs = (
  head,
  ordered_pairs B xs (λ i j d less below. pairs (suc i) (suc j) d (omega (arith, less))
      (omega (arith, below))),
)
  where
    head : (y : X) → Contains xs y → B x y
    head y (k, below, e) = subst (B x) e (pairs 0 (suc k) y (omega arith) (omega (arith, below)))

pub pairs_ordered : {X : Type 0} (B : X → X → Type 0) (xs : List X) → Ordered B xs → AllPairs B xs
pairs_ordered B [] o = λ i j d h k. absurd (omega (arith, k))
pairs_ordered B (x ∷ xs) o =
    AllPairs-cons B x xs (λ k d below. o.0 (get_or xs k d) (Contains-get_or xs k d below))
    (pairs_ordered B xs o.1)

pub next_resource : (i : ℕ) (found : List ResId) → IsSetOf IsEarlierResource (λ r. r.0 < i) found
    → IsSetOf IsEarlierResource (λ r. r.0 < i + 1) (found ++ resource i ∷ [])
next_resource i found s =
    set_push IsEarlierResource (λ r. r.0 < i) (λ r. r.0 < i + 1) found (resource i) s (λ x h. h) from
    (λ x h. omega (arith, h)) (omega arith)
  where
    from : (x : ResId) → x.0 < i + 1 → (x.0 < i) ⊎ (x ≡ resource i)
    from x h =
        elim (eqb_tells x.0 i) [
          | inl e ↦ inr (ap resource e.1)
          | inr e ↦ inl (let other : x.0 ≢ i = e.1 in omega arith)
        ]

-- one more variable of the resource
pub next_variable : (counts : ℕ → ℕ) (r : ResId) (i : ℕ) (found : List Var)
    → IsSetOf IsEarlier (IsUpTo counts r.0 i) found
    → IsSetOf IsEarlier (IsUpTo counts r.0 (i + 1)) (found ++ Shared r i ∷ [])
next_variable counts r i found s =
    set_push IsEarlier (IsUpTo counts r.0 i) (IsUpTo counts r.0 (i + 1)) found (Shared r i) s before from to
    (inr (refl, omega arith))
  where
    before : (x : Var) → IsUpTo counts r.0 i x → IsEarlier x (Shared r i)
    before (Own n) h = absurd h
    before (Shared q j) (inl h) = inl h.0
    before (Shared q j) (inr h) = inr (ap resource h.0, h.1)

    from : (x : Var) → IsUpTo counts r.0 (i + 1) x → IsUpTo counts r.0 i x ⊎ (x ≡ Shared r i)
    from (Own n) h = absurd h
    from (Shared q j) (inl h) = inl (inl h)
    from (Shared q j) (inr (e, h)) = elim (eqb_tells j i) [
      | inl same ↦ inr (let a : q ≡ r = ap resource e in let b : j ≡ i = same.1 in cc)
      | inr other ↦ inl (inr (e, (let o : j ≢ i = other.1 in omega (arith, h))))
    ]

    to : (x : Var) → IsUpTo counts r.0 i x → IsUpTo counts r.0 (i + 1) x
    to (Own n) h = h
    to (Shared q j) (inl h) = inl h
    to (Shared q j) (inr h) = inr (h.0, omega (arith, h.1))

-- all variables of the resource are there
pub next_variables : (counts : ℕ → ℕ) (k n : ℕ) (found : List Var) → counts k ≡ n
    → IsSetOf IsEarlier (IsUpTo counts k n) found → IsSetOf IsEarlier (IsUpTo counts (k + 1) 0) found
next_variables counts k n found e s =
    set_same IsEarlier (IsUpTo counts k n) (IsUpTo counts (k + 1) 0) found s to from
  where
    to : (x : Var) → IsUpTo counts k n x → IsUpTo counts (k + 1) 0 x
    to (Own m) h = h
    to (Shared q j) (inl h) = inl (omega (arith, h.0), h.1)
    to (Shared q j) (inr h) = inl (omega (arith, h.0), rw (h.0, e) h.1)

    from : (x : Var) → IsUpTo counts (k + 1) 0 x → IsUpTo counts k n x
    from (Own m) h = h
    from (Shared q j) (inl h) = elim (eqb_tells q.0 k) [
      | inl same ↦ inr (same.1, let below : j < counts q.0 = h.1 in rw (← e, ← same.1) below)
      | inr other ↦ inl (let o : q.0 ≢ k = other.1 in omega (arith, h.0), h.1)
    ]
    from (Shared q j) (inr h) = absurd (omega (arith, h.1))

-- at first there is none
pub no_variables : (counts : ℕ → ℕ) → IsSetOf IsEarlier (IsUpTo counts 0 0) []
no_variables counts = set_none IsEarlier (IsUpTo counts 0 0) none
  where
    none : (x : Var) → IsUpTo counts 0 0 x → ⊥
    none (Own n) h = h
    none (Shared q j) (inl h) = omega (arith, h.0)
    none (Shared q j) (inr h) = omega (arith, h.1)

-- how many variables a resource has is within the limit
pub variables_bound : (p : Program) (k : ℕ) (r : Resource) → IsFormed p → slice_get p.resources k ≡ Some r
    → length r.variables < 2 ^ 32
variables_bound p k r formed at =
    let le = get_or-le-sum_by (λ (q : Resource). length q.variables) p.resources k r
    (slice_get_within p.resources k r at) in
    let here : get_or p.resources k r ≡ r = get_or_from_slice_get p.resources k r r at in
    let all = formed.variables in
    omega (arith, rw here at le, all)

-- each of them is one of a resource
pub all_shared : (counts : ℕ → ℕ) (k : ℕ) (xs : List Var) → IsSetOf IsEarlier (IsUpTo counts k 0) xs
    → All IsShared xs
all_shared counts k xs s =
    λ j d below. shared (get_or xs j d) ((s.members (get_or xs j d)).0 (Contains-get_or xs j d below))
  where
    shared : (x : Var) → IsUpTo counts k 0 x → IsShared x
    shared (Own n) h = h
    shared (Shared q i) h = tt
