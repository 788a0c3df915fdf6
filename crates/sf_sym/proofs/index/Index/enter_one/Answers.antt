use Rattle.sf_sym.proofs.Making.{made-more}
use Rattle.sf_sym.proofs.index.Index.enter_one.Goals as goal

pub returns-clause-made : goal.returns-clause-made
returns-clause-made c =
    let s = c.args.self.now in
    let told = c.in_ok-enter.ensures in
    λ had made. made-more c.args.apart.now had s.roots s.cells made c.args.row c.give_cell-is_cell.result
    c.give_cell-is_cell.ensures c.enter.new.roots c.enter.new.cells told.roots told.cells told.without
