use Rattle.std.proofs.Common.{◌+◌, length}
use Rattle.sf_calls.specs.Checked.Visited.{unvisited}
use Rattle.sf_core.specs.Program.ProgramView.{program_of}
use Rattle.sf_run.proofs.Searching.{IsSearch}
use Rattle.sf_run.proofs.sequential.is_sequential.Given as goal

abbrev pub invariant-loop-g : goal.invariant-loop-g
invariant-loop-g l = IsSearch (program_of l.p) l.fn.f l.visited.items l.queue.items

-- each turn takes one off the queue, or visited one more
abbrev pub decreases-loop-g : goal.decreases-loop-g
decreases-loop-g l = length l.queue.items + unvisited l.visited.items
