use Rattle.std.proofs.Common.{◌≡◌, ◌⊎◌, ◌∙◌, ℕ, inl, inr, refl, subst, sym}
use Rattle.std.proofs.lemmas.Option.{same_Some}
use Rattle.sf_state.specs.Checked.FirstUnit.{IsInCell, IsValueIn}
use Rattle.sf_state.proofs.Raising.{raises-same, raises-then}
use Rattle.sf_state.proofs.unit.above_cell.Goals as goal

pub above-raised-requires : goal.above-raised-requires
above-raised-requires c = c.requires c.args.location (inl refl)

pub above_values-requires : goal.above_values-requires
above_values-requires c = λ l v.
    c.requires l (inr (c.in-Some.cell.now, sym c.in-Some.ensures, subst (λ vs. IsValueIn vs l) c.values.ensures v))

-- above the location, and then above those in its cell
pub returns-in-Some : goal.returns-in-Some
returns-in-Some c =
    let vs = c.values.result.now in
    let cell = c.in-Some.cell.now in
    let to : (l : ℕ) → (l ≡ c.args.location) ⊎ IsValueIn vs l → IsInCell c.args.heap.now c.args.location l =
    λ l m. elim m [
      | inl e ↦ inl e
      | inr v ↦ inr (cell, sym c.in-Some.ensures, subst (λ xs. IsValueIn xs l) c.values.ensures v)
    ] in
    let from : (l : ℕ) → IsInCell c.args.heap.now c.args.location l → (l ≡ c.args.location) ⊎ IsValueIn vs l =
    λ l m. elim m [
      | inl e ↦ inl e
      | inr h ↦ inr (subst (λ xs. IsValueIn xs l)
          (same_Some h.0 cell (sym h.1 ∙ sym c.in-Some.ensures) ∙ sym c.values.ensures) h.2)
    ] in
    raises-same (λ l. (l ≡ c.args.location) ⊎ IsValueIn vs l) (IsInCell c.args.heap.now c.args.location) c.args.unit
    c.above_values.result to from
    (raises-then (λ l. l ≡ c.args.location) (IsValueIn vs) c.args.unit c.above-raised.result c.above_values.result
    c.above-raised.ensures c.above_values.ensures)
