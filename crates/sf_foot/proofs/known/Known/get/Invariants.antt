use Rattle.std.proofs.Common.{◌≡◌, length, reverse}
use Rattle.sf_foot.specs.Checked.Known.{found_within}
use Rattle.sf_foot.proofs.known.Known.get.Given as goal

-- what the layers say that are left is what all outer layers say
abbrev pub invariant-layers : goal.invariant-layers
invariant-layers l = found_within (reverse l.left) l.n ≡ found_within (reverse l.self.outer.items) l.n

abbrev pub decreases-layers : goal.decreases-layers
decreases-layers l = length l.left
