use Rattle.std.proofs.Common.{◌≡◌, length}
use Rattle.sf_consume.specs.Checked.Meeting.{first_fit_of, fit_of}
use Rattle.sf_consume.specs.Misfit.{first_misfit}
use Rattle.sf_consume.proofs.differing.find.Given as goal

abbrev pub invariant-loop-first : goal.invariant-loop-first
invariant-loop-first l =
    first_misfit (first_fit_of l.seen) l.wanted ≡ first_misfit (fit_of l.seen l.meeting) l.left

abbrev pub decreases-loop-first : goal.decreases-loop-first
decreases-loop-first l = length l.left
