use Rattle.std.proofs.Common.{◌≡◌, replicate, false}
use Rattle.sf_calls.proofs.leading.none_visited.Given as goal

abbrev pub invariant-loop : goal.invariant-loop
invariant-loop l = l.visited.items ≡ replicate l.counter false
