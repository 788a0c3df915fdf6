use Rattle.std.proofs.Common.{◌≡◌, length, map}
use Rattle.sf_replay.specs.Checked.Looks.{absent_in, seen_of}
use Rattle.sf_replay.proofs.badness.first_absent.Given as goal

abbrev pub invariant-looks : goal.invariant-looks
invariant-looks l = absent_in (map seen_of l.looks) ≡ absent_in (map seen_of l.left)

abbrev pub decreases-looks : goal.decreases-looks
decreases-looks l = length l.left
