-- The resources and their variables in file order: each before the later ones, and all that are there.
use Rattle.std.proofs.Common.{◌≡◌, ◌≢◌, ◌<◌, ◌≤◌, ◌+◌, ◌-◌, ℕ, suc, List, [], ◌∷◌, length, slice_get, Contains, refl, sym, ap, inl, inr, subst, arith}
use Rattle.std.proofs.lemmas.Bool.Decides.{eqb_tells}
use Rattle.std.proofs.lemmas.List.Elements.{Contains-append_cases, Contains-append_left, Contains-append_right}
use Rattle.sf_base.proofs.Elements.{contains-nil, contains-single, contains-single_of}
use Rattle.sf_base.specs.declared.ids.ProcId.{ProcId}
use Rattle.sf_base.specs.declared.ids.ResId.{ResId}
use Rattle.sf_base.specs.declared.ids.Var.{Var}
use Rattle.sf_base.specs.declared.ids.Var.TheVariants.{Own, Shared}
use Rattle.sf_core.specs.Program.Formed.{variable_count, IsFormed}
use Rattle.sf_core.specs.Program.Syntax.{Program, Resource}
use Rattle.sf_calls.specs.Conditions.{Free}
use Rattle.sf_calls.specs.FirstBreach.{resources_from, shared_from, variables_from}
use Rattle.sf_calls.specs.Sets.{IsEarlier, IsEarlierResource}
use Rattle.sf_calls.specs.Checked.Lemmas.Decided.{resource}
use Rattle.sf_calls.specs.Checked.Lemmas.InOrder.{Ordered, ordered_append}
use Rattle.sf_calls.specs.Checked.Lemmas.Least.{free_apart}

pub resource_apart : (r q : ResId) → IsEarlierResource r q → IsEarlierResource q r → ⊥
resource_apart r q h k = absurd (omega (arith, h, k))

resources_later : (k : ℕ) (rs : List Resource) (q : ResId) → Contains (resources_from k rs) q → k ≤ q.0
resources_later k [] q c = absurd (contains-nil q c)
resources_later k (r ∷ rs) q c =
    elim (Contains-append_cases (resource k ∷ []) (resources_from (suc k) rs) q c) [
      | inl h ↦ let e : k ≡ q.0 = ap (λ (t : ResId). t.0) (contains-single (resource k) q h) in omega arith
      | inr h ↦ let l : suc k ≤ q.0 = resources_later (suc k) rs q h in omega arith
    ]

pub resources_ordered : (k : ℕ) (rs : List Resource) → Ordered IsEarlierResource (resources_from k rs)
resources_ordered k [] = tt
resources_ordered k (r ∷ rs) = (λ q c. resources_later (suc k) rs q c, resources_ordered (suc k) rs)

pub resources_there : (k : ℕ) (rs : List Resource) (q : ResId) → k ≤ q.0 → q.0 < k + length rs
    → Contains (resources_from k rs) q
resources_there k [] q from below = absurd (omega (arith, from, below))
resources_there k (r ∷ rs) q from below = elim (eqb_tells k q.0) [
  | inl e ↦
      Contains-append_left (resource k ∷ []) (resources_from (suc k) rs) q
      (contains-single_of (resource k) q (ap resource e.1))
  | inr e ↦
      Contains-append_right (resource k ∷ []) (resources_from (suc k) rs) q
      (resources_there (suc k) rs q (let other : k ≡ q.0 → ⊥ = e.1 in omega (arith, from))
      (omega (arith, below)))
]

-- a variable of that resource, from that number on
IsFrom : ResId → ℕ → Var → Type 0
IsFrom r i (Own n) = ⊥
IsFrom r i (Shared q j) = (q ≡ r) × (i ≤ j)

-- a variable of a resource from that one on
IsFromResource : ℕ → Var → Type 0
IsFromResource k (Own n) = ⊥
IsFromResource k (Shared q j) = k ≤ q.0

shared_later : (r : ResId) (i : ℕ) (names : List (List ℕ)) (x : Var) → Contains (shared_from r i names) x
    → IsFrom r i x
unfolding IsFrom
shared_later r i [] x c = absurd (contains-nil x c)
shared_later r i (name ∷ names) x c =
    elim (Contains-append_cases (Shared r i ∷ []) (shared_from r (suc i) names) x c) [
      | inl h ↦ subst (IsFrom r i) (contains-single (Shared r i) x h) (refl, omega arith)
      | inr h ↦ weaker x (shared_later r (suc i) names x h)
    ]
  where
    weaker : (x : Var) → IsFrom r (suc i) x → IsFrom r i x
    weaker (Own n) h = h
    weaker (Shared q j) h = (h.0, omega (arith, h.1))

shared_ordered : (r : ResId) (i : ℕ) (names : List (List ℕ)) → Ordered IsEarlier (shared_from r i names)
unfolding IsFrom
shared_ordered r i [] = tt
shared_ordered r i (name ∷ names) =
    (λ y c. before y (shared_later r (suc i) names y c), shared_ordered r (suc i) names)
  where
    before : (y : Var) → IsFrom r (suc i) y → IsEarlier (Shared r i) y
    before (Own n) h = absurd h
    before (Shared q j) h = inr (sym h.0, h.1)

shared_there : (r : ResId) (i : ℕ) (names : List (List ℕ)) (j : ℕ) → i ≤ j → j < i + length names
    → Contains (shared_from r i names) (Shared r j)
shared_there r i [] j from below = absurd (omega (arith, from, below))
shared_there r i (name ∷ names) j from below = elim (eqb_tells i j) [
  | inl e ↦
      Contains-append_left (Shared r i ∷ []) (shared_from r (suc i) names) (Shared r j)
      (contains-single_of (Shared r i) (Shared r j) (ap (Shared r) e.1))
  | inr e ↦
      Contains-append_right (Shared r i ∷ []) (shared_from r (suc i) names) (Shared r j)
      (shared_there r (suc i) names j (let other : i ≡ j → ⊥ = e.1 in omega (arith, from))
      (omega (arith, below)))
]

variables_later : (k : ℕ) (rs : List Resource) (x : Var) → Contains (variables_from k rs) x
    → IsFromResource k x
unfolding IsFrom IsFromResource
variables_later k [] x c = absurd (contains-nil x c)
variables_later k (r ∷ rs) x c =
    elim (Contains-append_cases (shared_from (resource k) 0 r.variables) (variables_from (suc k) rs) x c) [
      | inl h ↦ here x (shared_later (resource k) 0 r.variables x h)
      | inr h ↦ later x (variables_later (suc k) rs x h)
    ]
  where
    here : (x : Var) → IsFrom (resource k) 0 x → IsFromResource k x
    here (Own n) h = h
    here (Shared q j) h = let e : q.0 ≡ k = ap (λ (t : ResId). t.0) h.0 in omega arith

    later : (x : Var) → IsFromResource (suc k) x → IsFromResource k x
    later (Own n) h = h
    later (Shared q j) h = omega (arith, h)

pub variables_ordered : (k : ℕ) (rs : List Resource) → Ordered IsEarlier (variables_from k rs)
unfolding IsFrom IsFromResource
variables_ordered k [] = tt
variables_ordered k (r ∷ rs) =
    ordered_append IsEarlier (shared_from (resource k) 0 r.variables) (variables_from (suc k) rs)
    (shared_ordered (resource k) 0 r.variables) (variables_ordered (suc k) rs)
    (λ x y c d. across x y (shared_later (resource k) 0 r.variables x c) (variables_later (suc k) rs y d))
  where
    across : (x y : Var) → IsFrom (resource k) 0 x → IsFromResource (suc k) y → IsEarlier x y
    across (Own n) y h l = absurd h
    across (Shared q j) (Own n) h l = absurd l
    across (Shared q j) (Shared s i) h l =
        inl (let e : q.0 ≡ k = ap (λ (t : ResId). t.0) h.0 in omega (arith, l))

pub variables_there : (k : ℕ) (rs : List Resource) (q : ResId) (j : ℕ) → k ≤ q.0
    → j < variable_count (slice_get rs (q.0 - k)) → Contains (variables_from k rs) (Shared q j)
variables_there k [] q j from below = absurd (omega (arith, below))
variables_there k (r ∷ rs) q j from below = elim (eqb_tells k q.0) [
  | inl e ↦
      Contains-append_left (shared_from (resource k) 0 r.variables) (variables_from (suc k) rs) (Shared q j)
      (here e.1)
  | inr e ↦
      let next : suc k ≤ q.0 = let other : k ≢ q.0 = e.1 in omega (arith, from) in
      let one : q.0 - k ≡ suc (q.0 - suc k) = omega (arith, next) in
      Contains-append_right (shared_from (resource k) 0 r.variables) (variables_from (suc k) rs)
      (Shared q j)
      (variables_there (suc k) rs q j next
      (subst (λ (n : ℕ). j < variable_count (slice_get (r ∷ rs) n)) one below))
]
  where
    here : k ≡ q.0 → Contains (shared_from (resource k) 0 r.variables) (Shared q j)
    here e =
        let zero : q.0 - k ≡ 0 = omega (arith, e) in
        let less : j < length r.variables = subst (λ (n : ℕ). j < variable_count (slice_get (r ∷ rs) n))
        zero below in
        subst (λ (t : ResId). Contains (shared_from (resource k) 0 r.variables) (Shared t j))
        (ap resource e) (shared_there (resource k) 0 r.variables j (omega arith) (omega (arith, less)))

-- a variable that is free is one of its resource
pub free_within : (p : Program) (g : ProcId) (r : ResId) (i : _) → IsFormed p → Free p g (Shared r i)
    → i < variable_count (slice_get p.resources r.0)
free_within p g r i formed f =
    elim (free_apart p formed g (Shared r i) f).0 [
      | inl b ↦ b.1
      | inr b ↦ absurd (let none : i < 0 = b.1 in omega arith)
    ]

-- a variable that is free is there
pub free_there : (p : Program) (g : ProcId) (x : Var) → IsFormed p → Free p g x
    → Contains (variables_from 0 p.resources) x
free_there p g (Own n) formed f = absurd f.0
free_there p g (Shared r i) formed f =
    let same : r.0 ≡ r.0 - 0 = omega arith in
    variables_there 0 p.resources r i (omega arith)
    (subst (λ (n : ℕ). i < variable_count (slice_get p.resources n)) same
    (free_within p g r i formed f))
