use Rattle.std.proofs.Common.{◌≡◌, map, take}
use Rattle.sf_calls.specs.Checked.Summaries.{has}
use Rattle.sf_calls.proofs.tables.mentioning.Given as goal

-- the visited so far
abbrev pub invariant-loop-t : goal.invariant-loop-t
invariant-loop-t l = l.visited.items ≡ map (λ t. has l.x t.mentioned) (take l.t-index l.summaries)
