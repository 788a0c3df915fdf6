use Rattle.sf_sym.proofs.Entering.{entered-at, entered-both_at, may-first}
use Rattle.sf_sym.proofs.Indexed.{at-err}
use Rattle.sf_sym.proofs.rows.Table.enter.Goals as goal

pub returns-in_default-clause-ok : goal.returns-in_default-clause-ok
returns-in_default-clause-ok c =
    entered-at c.args.row c.args.self.now c.add.new.self c.add.new.self c.root-first.result c.root-first.ensures
    c.in_default.ensures c.in_ok-add.ensures.ok

pub returns-in_err-add-2-clause-err : goal.returns-in_err-add-2-clause-err
returns-in_err-add-2-clause-err c =
    at-err c.from_residual-in_err-add-2.result
    (may-first c.args.row c.args.self.now c.add.new.self c.add-2.new.self c.root-first.result c.root-first.ensures
    c.in_ok-add.ensures.ok c.in_err-add-2.ensures.err)

pub returns-clause-ok : goal.returns-clause-ok
returns-clause-ok c =
    entered-both_at c.args.row c.args.self.now c.add.new.self c.add-2.new.self c.root-first.result c.root-first.ensures
    c.in-Some.last c.in-Some.ensures c.in_ok-add.ensures.ok c.in_ok-add-2.ensures.ok
