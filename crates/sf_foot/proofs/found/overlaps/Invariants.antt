use Rattle.std.proofs.Common.{◌≡◌, All, false, take}
use Rattle.std.specs.BTreeSet.{contains}
use Rattle.std.specs.Ordering.{nat_cmp}
use Rattle.sf_foot.proofs.found.overlaps.Given as goal

-- none so far is in the set
abbrev pub invariant-loop-l : goal.invariant-loop-l
invariant-loop-l l = All (λ q. contains nat_cmp l.taken q ≡ false) (take l.l-index l.at)
