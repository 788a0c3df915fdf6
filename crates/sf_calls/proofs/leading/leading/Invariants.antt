use Rattle.std.proofs.Common.{◌+◌, length}
use Rattle.sf_calls.specs.Checked.Visited.{unvisited}
use Rattle.sf_calls.specs.Checked.Lemmas.Searches.{IsSearch}
use Rattle.sf_calls.proofs.leading.leading.Given as goal

abbrev pub invariant-loop-g : goal.invariant-loop-g
invariant-loop-g l = IsSearch l.fn.direct.items l.callers l.visited.items l.queue.items

-- each turn takes one off the queue, or visited one more
abbrev pub decreases-loop-g : goal.decreases-loop-g
decreases-loop-g l = length l.queue.items + unvisited l.visited.items
