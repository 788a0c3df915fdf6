use Rattle.sf_sym.proofs.Entering.{undone, undone-enter, undone-same}
use Rattle.sf_sym.proofs.index.enter.Goals as goal

pub returns-in-Err-clause-err : goal.returns-in-Err-clause-err
returns-in-Err-clause-err c = (
  undone c.args.row c.args.roots.now c.enter.new.self c.leave.new.self c.in-Err.ensures.err c.leave.ensures,
  undone-same c.args.row.number c.args.cells.now,
)

pub returns-in-Err-enter-clause-err : goal.returns-in-Err-enter-clause-err
returns-in-Err-enter-clause-err c = (
  undone-enter c.args.row c.args.roots.now c.enter.new.self c.leave-in-Err-enter.new.self c.in_default.ensures.ok
      c.leave-in-Err-enter.ensures,
  undone c.args.row c.args.cells.now c.enter-then-is_cell.new.self c.leave-in-Err-enter-2.new.self
      c.in-Err-enter.ensures.err c.leave-in-Err-enter-2.ensures,
)
