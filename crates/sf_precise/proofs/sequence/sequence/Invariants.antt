use Rattle.sf_core.specs.Program.View.{conjunct_of}
use Rattle.sf_precise.specs.Checked.Waits.{known_outside}
use Rattle.sf_precise.specs.Checked.Work.{work_left}
use Rattle.sf_precise.proofs.Sequences.{Progress}
use Rattle.sf_precise.proofs.sequence.sequence.Given as goal

abbrev pub invariant-loop-i : goal.invariant-loop-i
invariant-loop-i l =
    Progress conjunct_of (known_outside l.fn.start) l.cs l.fn.parts.items l.work l.parts.items l.taken.items

abbrev pub decreases-loop-i : goal.decreases-loop-i
decreases-loop-i l = work_left l.work
