use Rattle.std.specs.List.{sum_by}
use Rattle.sf_order.specs.Nests.{IsPair}
use Rattle.sf_order.proofs.Distances.{IsSearch}
use Rattle.sf_order.proofs.steps.steps_to.Given as goal

abbrev pub invariant-loop-x : goal.invariant-loop-x
invariant-loop-x l = IsSearch (IsPair l.pairs) l.fn.v l.n l.steps

-- the steps get fewer
abbrev pub decreases-loop-x : goal.decreases-loop-x
decreases-loop-x l = sum_by (λ k. k) l.steps
