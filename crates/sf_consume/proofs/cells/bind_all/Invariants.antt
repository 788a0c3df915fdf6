use Rattle.std.proofs.Common.{◌≡◌, length}
use Rattle.sf_consume.specs.Checked.Fits.{after_changes}
use Rattle.sf_consume.proofs.cells.bind_all.Given as goal

abbrev pub invariant-loop-first : goal.invariant-loop-first
invariant-loop-first l = record {
  conjuncts : l.want.conjuncts ≡ l.fn.want.conjuncts;
  bindings : after_changes l.left l.want.bindings ≡ after_changes l.changes l.fn.want.bindings;
}

abbrev pub decreases-loop-first : goal.decreases-loop-first
decreases-loop-first l = length l.left
