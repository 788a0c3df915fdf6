use Rattle.std.proofs.Common.{take}
use Rattle.sf_calls.specs.Checked.Visited.{VisitsMore}
use Rattle.sf_calls.proofs.leading.visit_all.Given as goal

-- those so far are visited
abbrev pub invariant-loop-f : goal.invariant-loop-f
invariant-loop-f l =
    VisitsMore (take l.f-index l.fs) l.initial.visited.items l.initial.queue.items l.visited.items
    l.queue.items
