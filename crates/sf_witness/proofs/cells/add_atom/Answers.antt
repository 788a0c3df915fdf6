use Rattle.std.proofs.Common.{sym, ◌∙◌}
use Rattle.std.proofs.lemmas.Result.{on_ok_weaker}
use Rattle.sf_heap.specs.Cells.{cell_of, heap_of}
use Rattle.sf_witness.proofs.Heaps.{atom-added}
use Rattle.sf_witness.proofs.cells.add_atom.Goals as goal

pub returns : goal.returns
returns c =
    on_ok_weaker c.add_last.result
    (atom-added c.args.links c.args.atom.now c.root.result (cell_of c.in_ok-cell.cell) (heap_of c.args.heap.now)
    (heap_of c.put_cell.new.heap) (heap_of c.add_last.new.heap) (sym c.is_nothing.ensures ∙ c.if-is_nothing.false)
    c.root.ensures c.in_ok-cell.ensures c.in_ok-put_cell.ensures)
    c.add_last.ensures
