use Rattle.std.proofs.Common.{◌≡◌, length}
use Rattle.sf_replay.proofs.keeping.are_same_things.Given as goal

-- where those that are left are the same, all are
abbrev pub invariant-things : goal.invariant-things
invariant-things l = l.left ≡ l.others → l.xs ≡ l.ys

abbrev pub decreases-things : goal.decreases-things
decreases-things l = length l.left
