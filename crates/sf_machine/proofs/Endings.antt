-- What a run ends with: whether the entry has ended, and the values of variables.
-- Names: `values_LAW` of the values of variables, `ended_LAW` of the entry's task.
use Rattle.std.specs.declared.alloc.Global.{Global}
use Rattle.std.specs.Option.{option_map}
use Rattle.std.specs.Prelude.{◌≡◌, ◌+◌, ◌<◌, ℕ, zero, suc, Vec, Option, Some, None, map, get_or, slice_get, List, [], ◌∷◌, ◌++◌, length, unwrap_or}
use Rattle.std.proofs.Common.{sym, ap, ◌∙◌, refl, subst, inl, inr, arith, length-append}
use Rattle.std.proofs.lemmas.Bool.{cases_lt}
use Rattle.std.proofs.lemmas.List.{length-map}
use Rattle.std.proofs.lemmas.Option.{get_or_from_slice_get, none-some, same_Some, slice_get-map, slice_get_within}
use Rattle.sf_base.proofs.Lookup.{get-push_before, get-push_last}
use Rattle.sf_base.specs.declared.ids.ProcId.{ProcId}
use Rattle.sf_base.specs.declared.ids.ResId.{ResId}
use Rattle.sf_base.specs.declared.ids.Var.{Var}
use Rattle.sf_base.specs.declared.ids.Var.TheVariants.{Own, Shared}
use Rattle.sf_base.specs.declared.value.Value.{Value}
use Rattle.sf_base.specs.declared.value.Value.TheVariants.{Nil as nil}
use Rattle.sf_base.specs.HeapStore.{Store, own, shared}
use Rattle.sf_core.specs.Machine.Config.{Config}
use Rattle.sf_core.specs.Machine.Start.{entry_slot}
use Rattle.sf_core.specs.Machine.Step.{procedure_at}
use Rattle.sf_core.specs.declared.program.Program.{Program as CodeProgram}
use Rattle.sf_core.specs.declared.program.Resource.{Resource as CodeResource}
use Rattle.sf_core.specs.Program.Formed.{IsParameter, variable_count}
use Rattle.sf_core.specs.Program.ProgramView.{program_of}
use Rattle.sf_core.specs.Program.Syntax.{Procedure, Resource}
use Rattle.sf_core.specs.Program.View.{resource_of}
use Rattle.sf_foot.specs.declared.vars.Vars.{Vars}
use Rattle.sf_foot.specs.Starting.{HasWidth}
use Rattle.sf_foot.specs.Variables.{value_of, values_or_none}
use Rattle.sf_heap.specs.Cells.{Cells, heap_of}
use Rattle.sf_machine.specs.Ending.{Ends}
use Rattle.sf_frame.specs.Checked.Endings.{AreValues}
use Rattle.sf_frame.specs.Checked.Resources.{counts_of}
use Rattle.sf_frame.proofs.Firsts.{counts_same}
use Rattle.sf_machine.specs.Checked.Endings.{AreRows}

-- no rows
pub rows_none : (store : Store) (counts : List ℕ) → AreRows store counts 0 []
rows_none store counts = record { length = refl; at = λ r row e. absurd (none-some row e) }

-- one row more
pub rows_more : (store : Store) (counts : List ℕ) (n : ℕ) (rows new : List (Vec Value Global))
    (v : Vec Value Global) (q : ResId) → q.0 ≡ n → AreRows store counts n rows
    → AreValues store (shared q) (get_or counts n 0) v.items → new ≡ rows ++ v ∷ []
    → AreRows store counts (n + 1) new
rows_more store counts n rows new v q same h k is = subst (AreRows store counts (n + 1)) (sym is) (record {
  length = omega (arith, length-append rows (v ∷ []), h.length);
  at = at;
})
  where
    last : (r : ResId) → r.0 ≡ n → (row : Vec Value Global) → slice_get (rows ++ v ∷ []) r.0 ≡ Some row
        → AreValues store (shared r) (get_or counts r.0 0) row.items
    last r e row there =
        let one : v ≡ row = same_Some v row (sym (get-push_last rows v)
        ∙ ap (slice_get (rows ++ v ∷ [])) (h.length ∙ sym e) ∙ there) in
        let here : AreValues store (shared q) (get_or counts q.0 0) row.items =
        subst (λ (z : Vec Value Global). AreValues store (shared q) (get_or counts q.0 0) z.items) one
        (subst (λ z. AreValues store (shared q) (get_or counts z 0) v.items) (sym same) k) in
        subst (λ (z : ResId). AreValues store (shared z) (get_or counts z.0 0) row.items)
        (λ i. record { 0 = (same ∙ sym e) i }) here

    at : (r : ResId) (row : Vec Value Global) → slice_get (rows ++ v ∷ []) r.0 ≡ Some row
        → AreValues store (shared r) (get_or counts r.0 0) row.items
    at r row there = elim (cases_lt r.0 n) [
      | inl b ↦ h.at r row (sym (get-push_before rows v r.0 (omega (arith, b, h.length))) ∙ there)
      | inr m ↦
          let within : r.0 < length (rows ++ v ∷ []) = slice_get_within (rows ++ v ∷ []) r.0 row there in
          last r (omega (arith, m, within, length-append rows (v ∷ []), h.length)) row there
    ]

-- how many variables a resource has, by the counts
count_is : (rs : List CodeResource) (r : ℕ) (of : Resource) → slice_get (map resource_of rs) r ≡ Some of
    → get_or (counts_of rs) r 0 ≡ length of.variables
count_is rs r of e = ap (λ z. get_or z r 0) (counts_same rs)
    ∙ get_or_from_slice_get (map (λ (q : Resource). length q.variables) (map resource_of rs)) r
    (length of.variables) 0
    (slice_get-map (λ (q : Resource). length q.variables) (map resource_of rs) r
    ∙ ap (option_map (λ (q : Resource). length q.variables)) e)

-- a resource with a variable is there
resource_of_variable : (o : Option Resource) (i : ℕ) → i < variable_count o
    → (of : Resource) × (o ≡ Some of) × (i < length of.variables)
resource_of_variable None i l = absurd (omega (arith, l))
resource_of_variable (Some of) i l = (of, refl, l)

-- a place of a list has an element
pub slice_get_some : {A : Type 0} (xs : List A) (k : ℕ) → k < length xs → (x : A) × (slice_get xs k ≡ Some x)
slice_get_some [] k l = absurd (omega (arith, l))
slice_get_some (x ∷ xs) zero l = (x, refl)
slice_get_some (x ∷ xs) (suc k) l = slice_get_some xs k (omega (arith, l))

module _ (p : CodeProgram) (f : ProcId) (g : Procedure) (there : procedure_at (program_of p) f ≡ Some g)
    (c : Config) (vars : Vars) (heap : Cells)
    (own_are : AreValues c.common.store (λ k. own 0 k) (g.references + g.values) vars.own.items)
    (rows_are : AreRows c.common.store (counts_of p.resources.items) (length p.resources.items) vars.shared.items)
    (cells : heap_of heap ≡ c.common.heap) (width : HasWidth (length (program_of p).fields) heap) where
  -- the row of a resource
  row_of : (r : ResId) (of : Resource) → slice_get (program_of p).resources r.0 ≡ Some of
      → AreValues c.common.store (shared r) (length of.variables) (values_or_none (slice_get vars.shared.items r.0))
  row_of r of e = go (slice_get vars.shared.items r.0) refl
    where
      below : r.0 < length vars.shared.items
      below =
          let within = slice_get_within (program_of p).resources r.0 of e in
          omega (arith, within, length-map p.resources.items resource_of, rows_are.length)

      go : (o : Option (Vec Value Global)) → slice_get vars.shared.items r.0 ≡ o
          → AreValues c.common.store (shared r) (length of.variables) (values_or_none o)
      go None n = absurd (none-some _ (sym n ∙ (slice_get_some vars.shared.items r.0 below).1))
      go (Some row) h = subst (λ z. AreValues c.common.store (shared r) z row.items)
          (count_is p.resources.items r.0 of e) (rows_are.at r row h)

  values_ended : (x : Var) → IsParameter (program_of p) g x
      → value_of vars x ≡ unwrap_or (c.common.store (entry_slot x)) nil
  values_ended (Own i) l = own_are.at i l
  values_ended (Shared r i) l =
      let k = resource_of_variable (slice_get (program_of p).resources r.0) i l in
      (row_of r k.0 k.1).at i k.2

  -- what the run ends with
  pub run_ended : Ends (program_of p) f c vars heap
  run_ended = record {
    procedure = g;
    there = there;
    parameters = own_are.length;
    resources = rows_are.length ∙ sym (length-map p.resources.items resource_of);
    variables = λ r of e. (row_of r of e).length;
    values = values_ended;
    cells = cells;
    width = width;
  }
