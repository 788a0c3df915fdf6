use Rattle.std.proofs.Common.{◌↔◌, ◌<◌, Contains}
use Rattle.sf_base.specs.declared.ids.ProcId.{ProcId}
use Rattle.sf_calls.specs.Checked.Visited.{IsVisited}
use Rattle.sf_calls.proofs.leading.visited_procedures.Given as goal

-- the visited ones so far
abbrev pub invariant-loop-i : goal.invariant-loop-i
invariant-loop-i l = (f : ProcId) → Contains l.found.items f ↔ ((f.0 < l.i) × IsVisited l.visited f)
