use Rattle.sf_threads.proofs.Trying.{Tries}
use Rattle.sf_threads.proofs.tries.enter.Given as goal

abbrev pub invariant-loop-count : goal.invariant-loop-count
invariant-loop-count g l = Tries l.crew.regions.now l.r l.fn.task l.trying l.count
