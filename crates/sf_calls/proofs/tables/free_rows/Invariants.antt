use Rattle.std.proofs.Common.{length, take}
use Rattle.sf_core.specs.Program.ProgramView.{program_of}
use Rattle.sf_calls.specs.Conditions.{FreeIn}
use Rattle.sf_calls.specs.Checked.Visited.{AreRows, AreCallers}
use Rattle.sf_calls.proofs.tables.free_rows.Given as goal

-- the rows so far, and the callers for the resource that came last
abbrev pub invariant-loop-x : goal.invariant-loop-x
invariant-loop-x l = record {
  rows : AreRows (length l.p.procedures.items) (FreeIn (program_of l.p))
      (take l.x-index l.variables) l.rows.items;
  callers : AreCallers (program_of l.p) l.last l.callers.items;
}
