use Rattle.std.proofs.Common.{◌≡◌, ◌↔◌, ◌<◌, length}
use Rattle.sf_base.specs.declared.ids.ProcId.{ProcId}
use Rattle.sf_core.specs.Program.ProgramView.{program_of}
use Rattle.sf_calls.specs.Conditions.{Calls}
use Rattle.sf_calls.specs.Checked.Visited.{IsCaller}
use Rattle.sf_calls.proofs.callers.callers_of.Given as goal

-- the calls of the procedures so far
abbrev pub invariant-loop-i : goal.invariant-loop-i
invariant-loop-i l = record {
  size : length l.callers.items ≡ length l.p.procedures.items;
  callers : (f g : ProcId) → IsCaller l.callers.items f g ↔ ((f.0 < l.i) × Calls (program_of l.p) l.but f g);
}
