-- A text gives one state at most, of which all locations are below 2^62 and which has a value for each variable.
-- Names: `state-LAW`.
use Rattle.std.proofs.Common.{◌≡◌, ◌+◌, ℕ, List, [], ◌∷◌, Option, Some, None, map, take, drop, slice_get, slice_index_or, refl, sym, ap, ◌∙◌, Vec, Global}
use Rattle.std.specs.FinMap.{same_map, nat_cmp-IsAntisymmetric}
use Rattle.std.specs.Option.{option_map}
use Rattle.std.proofs.lemmas.Cmp.{nat_cmp_total}
use Rattle.std.proofs.lemmas.Option.{same_Some, slice_get-map}
use Rattle.sf_base.specs.declared.ids.Var.{Var}
use Rattle.sf_base.specs.declared.ids.Var.TheVariants.{Own, Shared}
use Rattle.sf_base.specs.declared.value.Value.{Value}
use Rattle.sf_base.specs.declared.value.Value.TheVariants.{Nil as nil}
use Rattle.sf_base.proofs.Lists.{cons-parts, cons-same}
use Rattle.sf_core.specs.Program.Syntax.{Procedure, Program}
use Rattle.sf_heap.specs.Cells.{Cells}
use Rattle.sf_foot.specs.declared.vars.Vars.{Vars}
use Rattle.sf_foot.specs.Variables.{value_of, values_or_none}
use Rattle.sf_lines.specs.Lines.{Text}
use Rattle.sf_state.specs.Starts.{GivesState, by_resource}

-- the values at a place of lists, none where there is none
abbrev values_listed : Option (List Value) → List Value
values_listed None = []
values_listed (Some values) = values

-- the values of a resource's variables, as they are listed
listed : (shared : List (Vec Value Global)) (r : ℕ) → values_or_none (slice_get shared r)
    ≡ values_listed (slice_get (map (λ vs. vs.items) shared) r)
listed shared r = step (slice_get shared r) ∙ ap values_listed (sym (slice_get-map (λ (vs : Vec Value Global). vs.items) shared r))
  where
    step : (o : Option (Vec Value Global)) → values_or_none o ≡ values_listed (option_map (λ vs. vs.items) o)
    step None = refl
    step (Some vs) = refl

-- variables with the same values in lists have the same values
vars-once : (v w : Vars) → v.own.items ≡ w.own.items
    → map (λ vs. vs.items) v.shared.items ≡ map (λ vs. vs.items) w.shared.items → value_of v ≡ value_of w
vars-once v w e f = λ i x. at x i
  where
    at : (x : Var) → value_of v x ≡ value_of w x
    at (Own k) = ap (λ vs. slice_index_or vs k nil) e
    at (Shared r k) = ap (λ vs. slice_index_or vs k nil)
        (listed v.shared.items r.0 ∙ ap (λ xs. values_listed (slice_get xs r.0)) f ∙ sym (listed w.shared.items r.0))

-- the values of the variables are determined, as lists
pub state-vars : (p : Program) (g : Procedure) (text : Text) (v w : Vars) (h k : Cells) → GivesState p g text v h
    → GivesState p g text w k → (v.own.items ≡ w.own.items)
    × (map (λ vs. vs.items) v.shared.items ≡ map (λ vs. vs.items) w.shared.items)
state-vars p g text v w h k a b =
    let same = a.gives.values_are ∙ sym b.gives.values_are in (
      a.own ∙ ap (take (g.references + g.values)) same ∙ sym b.own,
      a.shared ∙ ap (λ vs. by_resource p.resources (drop (g.references + g.values) vs)) same ∙ sym b.shared,
    )

-- the variables and the cells are determined
pub state-once : (p : Program) (g : Procedure) (text : Text) (v w : Vars) (h k : Cells) → GivesState p g text v h
    → GivesState p g text w k → (value_of v ≡ value_of w) × (h ≡ k)
state-once p g text v w h k a b =
    let same = state-vars p g text v w h k a b in (
      vars-once v w same.0 same.1,
      same_map nat_cmp_total nat_cmp-IsAntisymmetric h k
          (λ l. a.gives.cells_are l ∙ sym (b.gives.cells_are l)),
    )
