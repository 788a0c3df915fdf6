use Rattle.std.proofs.Common.{length, map}
use Rattle.sf_replay.specs.Checked.Keeping.{AreStillFine, IsAmong}
use Rattle.sf_replay.specs.Checked.Looks.{Seen, seen_of}
use Rattle.sf_replay.proofs.keeping.are_still_fine.Given as goal

-- where those that are left are fine, all are; and what is left of what was known was known
abbrev pub invariant-looks : goal.invariant-looks
invariant-looks l = (AreStillFine (map seen_of l.old) (map seen_of l.new) (map seen_of l.left)
    → AreStillFine (map seen_of l.old) (map seen_of l.new) (map seen_of l.new))
    × ((x : Seen) → IsAmong (map seen_of l.before) x → IsAmong (map seen_of l.old) x)

abbrev pub decreases-looks : goal.decreases-looks
decreases-looks l = length l.left
