use Rattle.std.proofs.Common.{◌≡◌, drop}
use Rattle.sf_order.specs.Checked.Tests.{has_pair}
use Rattle.sf_order.proofs.pairs.has_pair.Given as goal

-- what was passed is another
abbrev pub invariant-loop-q : goal.invariant-loop-q
invariant-loop-q l = has_pair l.r l.s l.pairs ≡ has_pair l.r l.s (drop l.q-index l.pairs)
