use Rattle.std.proofs.Common.{◌≡◌, ◌||◌, map, take}
use Rattle.sf_calls.specs.Checked.Summaries.{speaks_of}
use Rattle.sf_calls.proofs.tables.holding.Given as goal

-- the visited so far
abbrev pub invariant-loop-t : goal.invariant-loop-t
invariant-loop-t l = l.visited.items ≡ map (λ t. t.sets_up || speaks_of l.r t.in_contract) (take l.t-index l.summaries)
