-- Variables and cells within bounds have a first unit.
-- Names: `unit-LAW`.
use Rattle.std.proofs.Common.{◌≡◌, ◌⊎◌, ◌+◌, ℕ, List, [], ◌∷◌, Option, Some, None, refl, sym, ap, ◌∙◌, subst, inl, inr, arith, Vec, Global}
use Rattle.std.specs.FinMap.{get, keys}
use Rattle.std.proofs.lemmas.Bool.{cases_lt}
use Rattle.std.proofs.lemmas.Option.{none-some, same_Some}
use Rattle.sf_base.specs.declared.value.Value.{Value}
use Rattle.sf_base.specs.declared.value.Value.TheVariants.{Nil as nil, Int as int, Loc as loc}
use Rattle.sf_base.proofs.Elements.{contains-cons, contains-nil, contains-rest}
use Rattle.sf_heap.specs.Cells.{Cells, FieldValues}
use Rattle.sf_foot.specs.declared.vars.Vars.{Vars}
use Rattle.sf_foot.specs.Starting.{IsFirstUnit, IsMentioned}
use Rattle.sf_state.specs.Checked.FirstUnit.{AreInBounds, IsInCell, IsLocation, IsOfOne, IsValueIn, Raises}
use Rattle.sf_state.proofs.Mentions.{unit-first}
use Rattle.sf_state.proofs.Once.{finish-keys}
use Rattle.sf_state.proofs.Raising.{raises-none, raises-same, raises-then}

-- a unit can be raised above a number, those of a value, those of all elements of a list, and those of a cell
unit-one : (l a : ℕ) → (b : ℕ) × Raises (λ m. m ≡ l) a b
unit-one l a = elim (cases_lt l a) [
  | inl h ↦ (a, record { up = omega arith; above = λ m e. omega (arith, e, h); is = inl refl })
  | inr h ↦ (l + 1, record { up = omega (arith, h); above = λ m e. omega (arith, e); is = inr (l, refl, refl) })
]

unit-value : (v : Value) (a : ℕ) → (b : ℕ) × Raises (IsLocation v) a b
unit-value nil a = (a, raises-none (IsLocation nil) a (λ l e. cc))
unit-value (int i) a = (a, raises-none (IsLocation (int i)) a (λ l e. cc))
unit-value (loc k) a = let r = unit-one k a in
    (r.0, raises-same (λ m. m ≡ k) (IsLocation (loc k)) a r.0 (λ l e. ap loc (sym e)) (λ l e. cc) r.1)

unit-all : {X : Type 0} (M : X → ℕ → Type 0) → ((x : X) (a : ℕ) → (b : ℕ) × Raises (M x) a b) → (xs : List X) (a : ℕ)
    → (b : ℕ) × Raises (IsOfOne M xs) a b
unit-all M raise [] a = (a, raises-none (IsOfOne M []) a (λ l m. contains-nil m.0 m.1))
unit-all {X} M raise (x ∷ xs) a =
    let r = raise x a in
    let s = unit-all M raise xs r.0 in (
      s.0,
      raises-same (λ l. M x l ⊎ IsOfOne M xs l) (IsOfOne M (x ∷ xs)) a s.0 to from
          (raises-then (M x) (IsOfOne M xs) a r.0 s.0 r.1 s.1),
    )
  where
    to : (l : ℕ) → M x l ⊎ IsOfOne M xs l → IsOfOne M (x ∷ xs) l
    to l (inl m) = (x, (contains-cons x xs x).1 (inl refl), m)
    to l (inr m) = (m.0, contains-rest x xs m.0 m.1, m.2)

    from : (l : ℕ) → IsOfOne M (x ∷ xs) l → M x l ⊎ IsOfOne M xs l
    from l m = elim ((contains-cons x xs m.0).0 m.1) [
      | inl e ↦ inl (subst (λ (z : X). M z l) (sym e) m.2)
      | inr c ↦ inr (m.0, c, m.2)
    ]

unit-cell : (heap : Cells) (place a : ℕ) → (b : ℕ) × Raises (IsInCell heap place) a b
unit-cell heap place a = go (get heap place) refl (unit-one place a)
  where
    go : (o : Option FieldValues) → get heap place ≡ o → (b : ℕ) × Raises (λ m. m ≡ place) a b
        → (b : ℕ) × Raises (IsInCell heap place) a b
    go None e r = (
      r.0,
      raises-same (λ m. m ≡ place) (IsInCell heap place) a r.0 (λ l m. inl m) (λ l m. elim m [
        | inl f ↦ f
        | inr h ↦ absurd (none-some h.0 (sym e ∙ h.1))
      ]) r.1,
    )
    go (Some here) e r =
        let s = unit-all IsLocation unit-value here r.0 in (
          s.0,
          raises-same (λ l. (l ≡ place) ⊎ IsValueIn here l) (IsInCell heap place) a s.0 (λ l m. elim m [
            | inl f ↦ inl f
            | inr v ↦ inr (here, e, v)
          ]) (λ l m. elim m [
            | inl f ↦ inl f
            | inr h ↦ inr (subst (λ vs. IsValueIn vs l) (same_Some h.0 here (sym h.1 ∙ e)) h.2)
          ]) (raises-then (λ l. l ≡ place) (IsValueIn here) a r.0 s.0 r.1 s.1),
        )

-- variables and cells within bounds have a first unit
pub unit-exists : (vars : Vars) (heap : Cells) → AreInBounds (IsMentioned vars heap) → (unit : ℕ) × IsFirstUnit vars heap unit
unit-exists vars heap bounds =
    let own = unit-all IsLocation unit-value vars.own.items 1 in
    let shared = unit-all (λ (vs : Vec Value Global). IsValueIn vs.items)
    (λ vs. unit-all IsLocation unit-value vs.items) vars.shared.items own.0 in
    let cells = unit-all (IsInCell heap) (unit-cell heap) (keys heap) shared.0 in
    (cells.0, unit-first vars heap (keys heap) own.0 shared.0 cells.0 (finish-keys heap) bounds own.1 shared.1 cells.1)
