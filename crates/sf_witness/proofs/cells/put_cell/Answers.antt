use Rattle.sf_witness.proofs.Heaps.{put-ok}
use Rattle.sf_witness.proofs.cells.put_cell.Goals as goal

pub returns-in-Ok : goal.returns-in-Ok
returns-in-Ok c =
    put-ok c.args.heap.now c.put.new.self c.in-Sym.n c.from.result c.args.at c.args.cell c.in-Ok.ensures.ok
    c.from.ensures c.in-Sym.is c.in-Ok.ensures.present.1
