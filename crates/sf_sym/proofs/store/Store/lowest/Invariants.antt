use Rattle.std.proofs.Common.{◌≡◌, None, length}
use Rattle.sf_sym.specs.Checked.Wanted.{is_wanted, lowest_of}
use Rattle.sf_sym.proofs.store.Store.lowest.Given as goal

abbrev pub invariant-loop-row : goal.invariant-loop-row
invariant-loop-row l =
    lowest_of (is_wanted l.self l.wanted) l.best l.left ≡ lowest_of (is_wanted l.self l.wanted) None l.fn.rows

abbrev pub decreases-loop-row : goal.decreases-loop-row
decreases-loop-row l = length l.left
