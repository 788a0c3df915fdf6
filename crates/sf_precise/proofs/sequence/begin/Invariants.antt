use Rattle.std.proofs.Common.{is_some, map, take}
use Rattle.sf_core.specs.Program.View.{conjunct_of}
use Rattle.sf_precise.specs.Checked.Waits.{jobs_of, known_outside}
use Rattle.sf_precise.specs.Checked.Work.{IsWork, none_taken}
use Rattle.sf_precise.proofs.sequence.begin.Given as goal

-- the work of those so far
abbrev pub invariant-loop-i : goal.invariant-loop-i
invariant-loop-i l =
    let jobs = jobs_of (known_outside l.start) (map conjunct_of (take l.i l.cs))
    (map is_some (take l.i l.parts)) in
    IsWork jobs (known_outside l.start) (none_taken jobs) l.work
