use Rattle.std.proofs.Common.{◌-◌}
use Rattle.std.specs.List.{sum_by}
use Rattle.sf_order.specs.Nests.{IsPair}
use Rattle.sf_order.proofs.Rising.{IsRise}
use Rattle.sf_order.proofs.ranked.rank.Given as goal

abbrev pub invariant-loop-r : goal.invariant-loop-r
invariant-loop-r l = IsRise (IsPair l.pairs) l.n l.ranks

-- what is left below n gets less
abbrev pub decreases-loop-r : goal.decreases-loop-r
decreases-loop-r l = sum_by (λ k. l.n - k) l.ranks
