use Rattle.sf_sym.proofs.SameRows.{marked-less}
use Rattle.sf_sym.proofs.marks.leave.Goals as goal

pub returns : goal.returns
returns c = λ r.
    marked-less c.args.row r c.args.rows.now.keys c.swap_remove.new.self.keys (c.swap_remove.ensures.updates.0 r)
