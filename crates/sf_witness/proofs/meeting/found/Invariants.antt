use Rattle.std.proofs.Common.{◌≡◌, length}
use Rattle.sf_witness.specs.Checked.Meeting.{found}
use Rattle.sf_witness.proofs.meeting.found.Given as goal

abbrev pub invariant-loop-first : goal.invariant-loop-first
invariant-loop-first l = found l.met l.n ≡ found l.left l.n

abbrev pub decreases-loop-first : goal.decreases-loop-first
decreases-loop-first l = length l.left
