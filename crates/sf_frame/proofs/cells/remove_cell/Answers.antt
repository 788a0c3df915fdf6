use Rattle.std.proofs.Common.{◌∙◌, ap, subst, sym}
use Rattle.sf_foot.specs.Starting.{HasWidth}
use Rattle.sf_heap.specs.Cells.{Cells, heap_of}
use Rattle.sf_frame.proofs.HeapChanges.{remove_at, width_remove}
use Rattle.sf_frame.proofs.cells.remove_cell.Goals as goal

pub returns-clause-cells : goal.returns-clause-cells
returns-clause-cells c = λ l. ap (λ (z : Cells). heap_of z l) c.take.ensures.rest ∙ remove_at c.args.heap.now c.args.at l

pub returns-clause-width : goal.returns-clause-width
returns-clause-width c = λ count w. subst (HasWidth count) (sym c.take.ensures.rest)
    (width_remove c.args.heap.now c.args.at count w)
