use Rattle.std.proofs.Common.{◌≡◌, length, map}
use Rattle.sf_replay.specs.Checked.Looks.{partner_in, seen_of}
use Rattle.sf_replay.proofs.badness.first_partner.Given as goal

abbrev pub invariant-looks : goal.invariant-looks
invariant-looks l = partner_in (seen_of l.one) (map seen_of l.others) ≡ partner_in (seen_of l.one) (map seen_of l.left)

abbrev pub decreases-looks : goal.decreases-looks
decreases-looks l = length l.left
