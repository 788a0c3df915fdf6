use Rattle.std.proofs.Common.{take}
use Rattle.sf_order.specs.Nests.{IsPair}
use Rattle.sf_order.specs.Checked.Ways.{IsFewest}
use Rattle.sf_order.proofs.steps.fewest.Given as goal

-- the fewest of those so far
abbrev pub invariant-loop-x : goal.invariant-loop-x
invariant-loop-x l = IsFewest (IsPair (take l.x-index l.pairs)) l.steps l.v l.n l.least
