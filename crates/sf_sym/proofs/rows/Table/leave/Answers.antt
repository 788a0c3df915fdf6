use Rattle.sf_sym.proofs.Entering.{left-at, left-both_at}
use Rattle.sf_sym.proofs.rows.Table.leave.Goals as goal

pub returns-in_default : goal.returns-in_default
returns-in_default c =
    left-at c.args.row c.args.self.now c.remove.new.self c.remove.new.self c.root-first.result c.root-first.ensures
    c.in_default.ensures c.remove.ensures

pub returns : goal.returns
returns c =
    left-both_at c.args.row c.args.self.now c.remove.new.self c.remove-2.new.self c.root-first.result c.root-first.ensures
    c.in-Some.last c.in-Some.ensures c.remove.ensures c.remove-2.ensures
