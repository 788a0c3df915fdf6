use Rattle.std.proofs.Common.{◌+◌, slice_get, take, false}
use Rattle.std.specs.Option.{IfSome}
use Rattle.sf_core.specs.Program.ProgramView.{program_of}
use Rattle.sf_foot.specs.Variables.{value_of}
use Rattle.sf_foot.specs.Starting.{assertions_of}
use Rattle.sf_state.specs.Checked.Found.{AreFound}
use Rattle.sf_state.proofs.finding.find_all.Given as goal

-- the precondition and the invariants so far are found
abbrev pub invariant-loop-r : goal.invariant-loop-r
invariant-loop-r l = IfSome (slice_get (program_of l.p.program).procedures l.fn.f.0)
    (λ g. AreFound (take (l.r + 1) (assertions_of (program_of l.p.program) g false)) (value_of l.vars) l.heap l.found)
