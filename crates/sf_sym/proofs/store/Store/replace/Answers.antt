use Rattle.std.proofs.Common.{sym, arith}
use Rattle.sf_sym.specs.Checked.Stores.{heap}
use Rattle.sf_sym.proofs.Bounds.{heap-same}
use Rattle.sf_sym.proofs.store.Store.replace.Goals as goal

pub returns-then-from-self-clause-ok : goal.returns-then-from-self-clause-ok
returns-then-from-self-clause-ok c =
    let s = c.args.self.now in
    sym (heap-same s.above c.args.r.symbol c.args.r.by (omega arith) (heap s) c.requires.bounded)
