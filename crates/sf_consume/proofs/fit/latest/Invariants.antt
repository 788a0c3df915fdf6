use Rattle.std.proofs.Common.{◌≡◌, length}
use Rattle.sf_consume.specs.Checked.Fits.{latest}
use Rattle.sf_consume.proofs.fit.latest.Given as goal

abbrev pub invariant-loop-change : goal.invariant-loop-change
invariant-loop-change l = latest l.changes l.n l.fn.before ≡ latest l.left l.n l.term

abbrev pub decreases-loop-change : goal.decreases-loop-change
decreases-loop-change l = length l.left
