use Rattle.sf_order.specs.Nests.{IsPair}
use Rattle.sf_order.proofs.Distances.{IsWalk}
use Rattle.sf_order.proofs.cycles.cycle_through.Given as goal

abbrev pub invariant-loop-left : goal.invariant-loop-left
invariant-loop-left l = IsWalk (IsPair l.pairs) l.fn.v l.n l.steps l.fn.least l.at l.left l.found.items

abbrev pub decreases-loop-left : goal.decreases-loop-left
decreases-loop-left l = l.left
