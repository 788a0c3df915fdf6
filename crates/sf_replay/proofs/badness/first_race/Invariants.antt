use Rattle.std.proofs.Common.{◌≡◌, length, map}
use Rattle.sf_replay.specs.Checked.Looks.{race_in, seen_of}
use Rattle.sf_replay.proofs.badness.first_race.Given as goal

abbrev pub invariant-looks : goal.invariant-looks
invariant-looks l = race_in (map seen_of l.looks) ≡ race_in (map seen_of l.left)

abbrev pub decreases-looks : goal.decreases-looks
decreases-looks l = length l.left
