use Rattle.std.proofs.Common.{◌≡◌, All, true, take}
use Rattle.std.specs.BTreeSet.{contains}
use Rattle.std.specs.Ordering.{nat_cmp}
use Rattle.sf_state.proofs.finding.first_outside.Given as goal

-- all so far are in the set
abbrev pub invariant-loop-l : goal.invariant-loop-l
invariant-loop-l l = All (λ q. contains nat_cmp l.taken q ≡ true) (take l.l-index l.l-items)
