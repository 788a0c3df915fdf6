use Rattle.std.proofs.Common.{◌≡◌, length}
use Rattle.sf_consume.specs.Checked.Meeting.{first_fit_of, fit_of}
use Rattle.sf_consume.specs.Subtract.{fit_fields}
use Rattle.sf_consume.proofs.meeting.fit.Given as goal

abbrev pub invariant-loop-first : goal.invariant-loop-first
invariant-loop-first l =
    fit_fields (first_fit_of l.seen) l.wanted ≡ fit_fields (fit_of l.seen l.meeting) l.left

abbrev pub decreases-loop-first : goal.decreases-loop-first
decreases-loop-first l = length l.left
