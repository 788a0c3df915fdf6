use Rattle.sf_sym.proofs.SameRows.{marked-more}
use Rattle.sf_sym.proofs.marks.put.Goals as goal

pub returns-clause-ok : goal.returns-clause-ok
returns-clause-ok c = λ r.
    marked-more c.args.row r c.args.rows.now.keys c.insert.new.self.keys (c.in_ok-insert.ensures.updates.0 r)
