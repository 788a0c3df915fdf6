use Rattle.std.proofs.Common.{◌≡◌, ◌+◌, length}
use Rattle.std.specs.Option.{option_map}
use Rattle.sf_consume.specs.Checked.Meeting.{latest_link}
use Rattle.sf_consume.specs.Misfit.{met_term}
use Rattle.sf_consume.proofs.meeting.latest_link.Given as goal

abbrev pub invariant-loop-link : goal.invariant-loop-link
invariant-loop-link l = record {
  same : latest_link l.next l.links l.field (option_map (met_term l.next) l.fn.before)
      ≡ latest_link (l.next + l.number) l.left l.field (option_map (met_term l.next) l.term);
  count : l.number + length l.left ≡ length l.links;
}

abbrev pub decreases-loop-link : goal.decreases-loop-link
decreases-loop-link l = length l.left
