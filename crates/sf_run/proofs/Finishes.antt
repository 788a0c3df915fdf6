-- That what a run ends with is one thing: its variables' values and its cells.
-- Names: `WHAT-same`, `WHAT-at` of one place.
use Rattle.std.specs.Prelude.{◌≡◌, ℕ, zero, suc, ◌+◌, ◌<◌, List, [], ◌∷◌, Some, length, map, get_or, slice_get, Vec}
use Rattle.std.specs.declared.alloc.Global.{Global}
use Rattle.std.proofs.Common.{sym, ap, ◌∙◌, refl, arith}
use Rattle.std.proofs.lemmas.List.{get_or_default, length-map, same_lists}
use Rattle.sf_base.proofs.Options.{some-once}
use Rattle.sf_base.specs.declared.ids.ProcId.{ProcId}
use Rattle.sf_base.specs.declared.ids.ResId.{ResId}
use Rattle.sf_base.specs.declared.ids.Var.TheVariants.{Own, Shared}
use Rattle.sf_base.specs.declared.value.Value.{Value}
use Rattle.sf_base.specs.declared.value.Value.TheVariants.{Nil as nil}
use Rattle.sf_core.specs.Machine.Config.{Config}
use Rattle.sf_core.specs.Machine.Step.{procedure_at}
use Rattle.sf_core.specs.Program.Formed.{variable_count}
use Rattle.sf_core.specs.Program.Syntax.{Procedure, Program, Resource}
use Rattle.sf_foot.specs.declared.vars.Vars.{Vars}
use Rattle.sf_foot.specs.Variables.{values_or_none}
use Rattle.sf_heap.specs.Cells.{Cells}
use Rattle.sf_machine.specs.Ending.{Ends}
use Rattle.sf_run.specs.Checked.Laws.{EndsSame}

-- a place of a list has an element
element-at : {A : Type 0} (xs : List A) (k : ℕ) → k < length xs → (x : A) × (slice_get xs k ≡ Some x)
element-at [] k l = absurd (omega (arith, l))
element-at (x ∷ xs) zero l = (x, refl)
element-at (x ∷ xs) (suc k) l = element-at xs k (omega (arith, l))

-- values that are the same at each place
values-same : (xs ys : List Value) → length xs ≡ length ys
    → ((k : ℕ) → k < length xs → get_or xs k nil ≡ get_or ys k nil) → xs ≡ ys
values-same xs ys n same = same_lists xs ys n (λ k d below.
    let within : k < length ys = omega (arith, below, n) in
    get_or_default xs k d nil below ∙ same k below ∙ sym (get_or_default ys k d nil within))

-- a row of values, which is empty past the end
row-at : (rows : List (Vec Value Global)) (k : ℕ)
    → get_or (map (λ vs. vs.items) rows) k [] ≡ values_or_none (slice_get rows k)
row-at [] k = refl
row-at (row ∷ rows) zero = refl
row-at (row ∷ rows) (suc k) = row-at rows k

-- rows that are the same at each place
rows-same : (rows other : List (Vec Value Global)) → length rows ≡ length other
    → ((k : ℕ) → k < length rows → values_or_none (slice_get rows k) ≡ values_or_none (slice_get other k))
    → map (λ vs. vs.items) rows ≡ map (λ vs. vs.items) other
rows-same rows other n same =
    let one : List (List Value) = map (λ vs. vs.items) rows in
    let two : List (List Value) = map (λ vs. vs.items) other in
    let first : length one ≡ length rows = length-map rows (λ vs. vs.items) in
    let second : length two ≡ length other = length-map other (λ vs. vs.items) in
    same_lists one two (first ∙ n ∙ sym second) (λ k d below.
    let here : k < length rows = omega (arith, below, first) in
    let there : k < length two = omega (arith, here, n, second) in
    get_or_default one k d [] below ∙ row-at rows k ∙ same k here ∙ sym (row-at other k)
    ∙ sym (get_or_default two k d [] there))

module _ (p : Program) (f : ProcId) (c : Config) (vars other : Vars) (heap more : Cells)
    (a : Ends p f c vars heap) (b : Ends p f c other more) where
  procedure-same : a.procedure ≡ b.procedure
  procedure-same = some-once (procedure_at p f) a.procedure b.procedure a.there b.there

  own-length : length vars.own.items ≡ length other.own.items
  own-length = a.parameters ∙ ap (λ (g : Procedure). g.references + g.values) procedure-same ∙ sym b.parameters

  own-same : vars.own.items ≡ other.own.items
  own-same = values-same vars.own.items other.own.items own-length
      (λ k below. a.values (Own k) (omega (arith, below, a.parameters))
      ∙ sym (b.values (Own k) (omega (arith, below, own-length, b.parameters))))

  row-same : (k : ℕ) (of : Resource) → slice_get p.resources k ≡ Some of
      → values_or_none (slice_get vars.shared.items k) ≡ values_or_none (slice_get other.shared.items k)
  row-same k of there =
      let r : ResId = record { 0 = k } in
      let first = a.variables r of there in
      let second = b.variables r of there in
      let count : variable_count (slice_get p.resources k) ≡ length of.variables = ap variable_count there in
      values-same (values_or_none (slice_get vars.shared.items k))
      (values_or_none (slice_get other.shared.items k)) (first ∙ sym second)
      (λ i below.
      a.values (Shared r i) (omega (arith, below, first, count))
      ∙ sym (b.values (Shared r i) (omega (arith, below, first, count))))

  shared-same : map (λ vs. vs.items) vars.shared.items ≡ map (λ vs. vs.items) other.shared.items
  shared-same = rows-same vars.shared.items other.shared.items (a.resources ∙ sym b.resources)
      (λ k below.
      let there = element-at p.resources k (omega (arith, below, a.resources)) in
      row-same k there.0 there.1)

  pub ends-same : EndsSame vars other heap more
  ends-same = record { own = own-same; shared = shared-same; cells = a.cells ∙ sym b.cells }
