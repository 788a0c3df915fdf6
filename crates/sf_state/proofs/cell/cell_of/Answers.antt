use Rattle.std.proofs.Common.{◌∙◌, ap, length}
use Rattle.sf_state.proofs.StateShape.{cell-many}
use Rattle.sf_state.proofs.cell.cell_of.Goals as goal

pub returns-clause-wide : goal.returns-clause-wide
returns-clause-wide c = ap length c.in_ok-cell_with.ensures ∙ cell-many c.args.count c.as_slice-2.result.now
