use Rattle.std.proofs.Common.{slice_get}
use Rattle.sf_core.specs.Program.Formed.{variable_count}
use Rattle.sf_core.specs.Program.ProgramView.{program_of}
use Rattle.sf_calls.specs.Checked.Gathers.{IsUpTo}
use Rattle.sf_calls.specs.Sets.{IsSetOf, IsEarlier}
use Rattle.sf_calls.proofs.keys.variables_of.Given as goal

-- those of the resources so far
abbrev pub invariant-loop-i : goal.invariant-loop-i
invariant-loop-i l =
    IsSetOf IsEarlier (IsUpTo (λ k. variable_count (slice_get (program_of l.p).resources k)) l.i 0)
    l.found.items
