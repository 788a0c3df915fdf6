use Rattle.std.proofs.Common.{◌≡◌, length}
use Rattle.sf_sym.specs.State.{term_at}
use Rattle.sf_sym.proofs.vars.term_at.Given as goal

abbrev pub invariant-loop-first : goal.invariant-loop-first
invariant-loop-first l = term_at l.vars l.x ≡ term_at l.left l.x

abbrev pub decreases-loop-first : goal.decreases-loop-first
decreases-loop-first l = length l.left
