use Rattle.std.proofs.Common.{ap, ◌∙◌, arith}
use Rattle.sf_heap.specs.Cells.{cell_of}
use Rattle.sf_base.specs.HeapStore.{put_field}
use Rattle.sf_witness.proofs.CellValues.{cell-longer, cell-put}
use Rattle.sf_witness.proofs.cells.put_field.Goals as goal

pub loop-values-preserved : goal.loop-values-preserved
loop-values-preserved c =
    ap cell_of c.in_ok-push.ensures.items ∙ cell-longer c.loop-values.values.items ∙ c.loop-values.invariant

pub returns : goal.returns
returns c =
    cell-put c.loop-values.values.items c.args.field.0 c.args.value
    (omega (arith, c.loop-values-test.false, c.len.ensures))
    ∙ ap (λ k. put_field k c.args.field.0 c.args.value) c.loop-values.invariant
