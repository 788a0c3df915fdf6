use Rattle.std.proofs.Common.{◌∙◌, Some, ap, length, subst, sym}
use Rattle.sf_foot.specs.Starting.{HasWidth}
use Rattle.sf_heap.specs.Cells.{Cells, FieldValues, cell_of, heap_of}
use Rattle.sf_frame.proofs.HeapChanges.{insert_at, width_insert}
use Rattle.sf_frame.proofs.cells.make_cell.Goals.{in-Ok, in-Err}
use Rattle.sf_frame.proofs.cells.make_cell.Goals as goal

pub returns-clause-ok : goal.returns-clause-ok
returns-clause-ok c = elim c.match-put.branch [
  | in-Ok w ↦
      let same = c.from_values.ensures ∙ c.in_ok-values.ensures.items ∙ c.values.ensures in
      rw w.result-is (λ l. ap (λ (z : Cells). heap_of z l) w.in-Ok.ensures.ok
      ∙ insert_at c.args.heap.now c.args.at c.from_values.result (Some (cell_of c.args.fields.now))
      (ap (λ (ks : FieldValues). Some (cell_of ks)) (sym same)) l)
  | in-Err w ↦ rw w.result-is tt
]

pub returns-clause-width : goal.returns-clause-width
returns-clause-width c = λ count e w.
    let same = c.from_values.ensures ∙ c.in_ok-values.ensures.items ∙ c.values.ensures in
    elim c.match-put.branch [
      | in-Ok k ↦ subst (HasWidth count) (sym k.in-Ok.ensures.ok)
          (width_insert c.args.heap.now c.args.at c.from_values.result count
          (ap (λ (xs : FieldValues). length xs) same ∙ e) w)
      | in-Err k ↦ subst (HasWidth count) (sym k.in-Err.ensures.err) w
    ]
