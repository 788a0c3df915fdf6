-- The values of the variables of one resource, as a row in a table of which the others are empty.
-- Names: `row-LAW`.
use Rattle.std.specs.Prelude.{◌≡◌, ◌+◌, ◌<◌, ◌==◌, ℕ, zero, suc, true, ltb, List, [], ◌∷◌, ◌++◌, length, slice_index_or, Option, Some, None, is_some, unwrap_or, Vec}
use Rattle.std.specs.declared.alloc.Global.{Global}
use Rattle.std.specs.List.{slice_get}
use Rattle.std.proofs.Common.{true≢false, sym, ap, ◌∙◌, refl, subst, inl, inr, arith, length-append}
use Rattle.std.proofs.lemmas.Bool.{cases_lt}
use Rattle.std.proofs.lemmas.Bool.Decides.{eqb_tells, nat_tests}
use Rattle.std.proofs.lemmas.List.{get_or_past}
use Rattle.std.proofs.lemmas.Option.{slice_get_cases}
use Rattle.sf_base.proofs.Bools.{and-left, and-right}
use Rattle.sf_base.proofs.StoreSplits.{resource-is}
use Rattle.sf_base.specs.declared.ids.ResId.{ResId}
use Rattle.sf_base.specs.declared.ids.Var.{Var}
use Rattle.sf_base.specs.declared.ids.Var.TheVariants.{Own, Shared}
use Rattle.sf_base.specs.declared.value.Value.{Value}
use Rattle.sf_base.specs.declared.value.Value.TheVariants.{Nil as nil}
use Rattle.sf_base.specs.HeapStore.{Slot, Store, own, shared}
use Rattle.sf_core.specs.Program.Formed.{variable_count}
use Rattle.sf_core.specs.Program.Syntax.{Program, Resource}
use Rattle.sf_foot.specs.declared.vars.Vars.{Vars}
use Rattle.sf_foot.specs.Variables.{value_of, values_or_none}
use Rattle.sf_part.specs.Checked.Sharing.{seen_in}
use Rattle.sf_part.specs.Given.{is_variable_of}

-- the rows before and after the last one
pub row-same : (rows : List (Vec Value Global)) (v : Vec Value Global) (n : ℕ) → n ≡ length rows
    → slice_get (rows ++ v ∷ []) n ≡ Some v
row-same [] v zero e = refl
row-same [] v (suc n) e = absurd (omega arith)
row-same (x ∷ rows) v zero e = absurd (omega arith)
row-same (x ∷ rows) v (suc n) e = row-same rows v n (omega arith)

pub row-before : (rows : List (Vec Value Global)) (v : Vec Value Global) (n : ℕ) → n < length rows
    → slice_get (rows ++ v ∷ []) n ≡ slice_get rows n
row-before [] v n l = absurd (omega arith)
row-before (x ∷ rows) v zero l = refl
row-before (x ∷ rows) v (suc n) l = row-before rows v n (omega arith)

row-other : (rows : List (Vec Value Global)) (v : Vec Value Global) (n : ℕ)
    → ((k : ℕ) → values_or_none (slice_get rows k) ≡ []) → (n ≡ length rows → ⊥)
    → values_or_none (slice_get (rows ++ v ∷ []) n) ≡ []
row-other [] v zero h other = absurd (other (omega arith))
row-other [] v (suc n) h other = refl
row-other (x ∷ rows) v zero h other = h zero
row-other (x ∷ rows) v (suc n) h other =
    row-other rows v n (λ k. h (suc k)) (λ e. other (omega arith))

-- what isn't there is nil
row-absent : (o : Option Value) → (is_some o ≡ true → ⊥) → nil ≡ unwrap_or o nil
row-absent None h = refl
row-absent (Some v) h = absurd (h refl)

module _ (rows : List (Vec Value Global)) (values : Vec Value Global) (r : ResId) (count : ℕ)
    (store : Store) (vars : Vars) (first : length rows ≡ r.0)
    (empty : (k : ℕ) → values_or_none (slice_get rows k) ≡ [])
    (few : length values.items ≡ count)
    (are : (i : ℕ) → i < count
    → slice_index_or values.items i nil ≡ unwrap_or (store (shared r i)) nil)
    (just : (slot : Slot) → is_some (store slot) ≡ true → is_variable_of r count slot ≡ true)
    (none : vars.own.items ≡ []) (table : vars.shared.items ≡ rows ++ values ∷ []) where
  here : (i : ℕ) → slice_index_or values.items i nil ≡ unwrap_or (store (shared r i)) nil
  here i = elim (cases_lt i count) [
    | inl l ↦ are i l
    | inr l ↦ get_or_past values.items i nil (omega arith)
        ∙ row-absent (store (shared r i)) (λ h.
        let within : ltb i count ≡ true = and-right (r.0 == r.0) _ (just (shared r i) h) in
        absurd (grind (arith, nat_tests)))
  ]

  -- the value of each variable
  pub row-values : (x : Var) → value_of vars x ≡ seen_in store x
  row-values (Own n) = ap (λ z. slice_index_or z n nil) none
      ∙ row-absent (store (own 0 n)) (λ h. true≢false (sym (just (own 0 n) h)))
  row-values (Shared q j) = elim (eqb_tells q.0 r.0) [
    | inl t ↦
        let same : q ≡ r = resource-is q r t.1 in
        ap (λ z. slice_index_or (values_or_none z) j nil)
        (ap (λ z. slice_get z q.0) table ∙ row-same rows values q.0 (omega arith))
        ∙ here j ∙ ap (λ z. unwrap_or (store (shared z j)) nil) (sym same)
    | inr t ↦
        ap (λ z. slice_index_or z j nil) (ap (λ z. values_or_none (slice_get z q.0)) table
        ∙ row-other rows values q.0 empty (λ e. t.1 (omega arith)))
        ∙ row-absent (store (shared q j)) (λ h.
        true≢false (sym (and-left (q.0 == r.0) _ (just (shared q j) h)) ∙ t.0))
  ]

-- one row more, in the turn of a loop
pub row-turn : (p : Program) (n : ℕ) (store : Store) (rows more : List (Vec Value Global))
    (values : Vec Value Global) (count : ℕ)
    → ((resource : Resource) → slice_get p.resources n ≡ Some resource
    → count ≡ length resource.variables)
    → (length rows ≡ n) × ((r : ResId) (i : ℕ) → r.0 < n
    → i < variable_count (slice_get p.resources r.0)
    → slice_index_or (values_or_none (slice_get rows r.0)) i nil
    ≡ unwrap_or (store (shared r i)) nil)
    → ((i : ℕ) → i < count
    → slice_index_or values.items i nil ≡ unwrap_or (store (shared (record { 0 = n }) i)) nil)
    → more ≡ rows ++ values ∷ []
    → (length more ≡ n + 1) × ((r : ResId) (i : ℕ) → r.0 < n + 1
    → i < variable_count (slice_get p.resources r.0)
    → slice_index_or (values_or_none (slice_get more r.0)) i nil
    ≡ unwrap_or (store (shared r i)) nil)
row-turn p n store rows more values count counts before are table = (
  ap length table ∙ length-append rows (values ∷ []) ∙ ap (λ z. z + 1) before.0,
  λ r i l few. elim (cases_lt r.0 n) [
    | inl less ↦ ap (λ z. slice_index_or (values_or_none z) i nil)
        (ap (λ z. slice_get z r.0) table
        ∙ row-before rows values r.0 (let h = before.0 in omega arith))
        ∙ before.1 r i less few
    | inr most ↦
        let number : r.0 ≡ n = omega arith in
        let same : r ≡ record { 0 = n } = resource-is r (record { 0 = n }) number in
        ap (λ z. slice_index_or (values_or_none z) i nil)
        (ap (λ z. slice_get z r.0) table
        ∙ row-same rows values r.0 (let h = before.0 in omega arith))
        ∙ are i (fits r.0 i number few)
        ∙ ap (λ z. unwrap_or (store (shared z i)) nil) (sym same)
  ],
)
  where
    fits : (m i : ℕ) → m ≡ n → i < variable_count (slice_get p.resources m) → i < count
    fits m i e few = elim (slice_get_cases p.resources n).1 [
      | inl h ↦
          let here : i < length (h.0).variables =
          subst (λ z. i < variable_count z) (ap (slice_get p.resources) e ∙ h.2) few in
          let c = counts h.0 h.2 in omega arith
      | inr h ↦ absurd (let none : i < 0 =
          subst (λ z. i < variable_count z) (ap (slice_get p.resources) e ∙ h.1) few in
          omega arith)
    ]
