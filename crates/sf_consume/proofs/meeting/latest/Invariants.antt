use Rattle.std.proofs.Common.{◌≡◌, length}
use Rattle.std.specs.Option.{option_map}
use Rattle.sf_consume.specs.Checked.Fits.{latest}
use Rattle.sf_consume.specs.Checked.Meeting.{terms_of}
use Rattle.sf_consume.specs.Misfit.{met_term}
use Rattle.sf_consume.proofs.meeting.latest.Given as goal

abbrev pub invariant-loop-change : goal.invariant-loop-change
invariant-loop-change l = latest (terms_of l.next l.changes) l.n (option_map (met_term l.next) l.fn.before)
    ≡ latest (terms_of l.next l.left) l.n (option_map (met_term l.next) l.term)

abbrev pub decreases-loop-change : goal.decreases-loop-change
decreases-loop-change l = length l.left
