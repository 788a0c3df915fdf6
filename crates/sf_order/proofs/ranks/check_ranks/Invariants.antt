use Rattle.std.proofs.Common.{All, take}
use Rattle.sf_order.specs.Rank.{Rises}
use Rattle.sf_order.proofs.ranks.check_ranks.Given as goal

-- ranks rise along those so far
abbrev pub invariant-loop-r : goal.invariant-loop-r
invariant-loop-r l = All (Rises l.ranks) (take l.r-index l.pairs)
