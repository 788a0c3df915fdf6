use Rattle.std.proofs.Common.{◌≡◌, length}
use Rattle.sf_replay.proofs.keeping.are_same_turns.Given as goal

-- where those that are left are the same, all are
abbrev pub invariant-turns : goal.invariant-turns
invariant-turns l = l.left ≡ l.others → l.xs ≡ l.ys

abbrev pub decreases-turns : goal.decreases-turns
decreases-turns l = length l.left
