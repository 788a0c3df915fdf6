use Rattle.std.proofs.Common.{length, take}
use Rattle.sf_core.specs.Machine.HasThroughout.{HasThroughout}
use Rattle.sf_core.specs.Program.ProgramView.{program_of}
use Rattle.sf_calls.specs.Checked.Visited.{AreRows}
use Rattle.sf_calls.proofs.tables.holds_rows.Given as goal

-- the rows so far
abbrev pub invariant-loop-r : goal.invariant-loop-r
invariant-loop-r l =
    AreRows (length l.p.procedures.items) (HasThroughout (program_of l.p))
    (take l.r-index l.resources) l.rows.items
