use Rattle.std.proofs.Common.{◌≡◌, ◌||◌, ℕ, drop, nat_eq}
use Rattle.std.specs.BTreeSet.{contains}
use Rattle.std.specs.Ordering.{nat_cmp}
use Rattle.std.specs.Set.{is_member}
use Rattle.sf_foot.proofs.found.add_all.Given as goal

-- with those that are left the set has what it had and all of them
abbrev pub invariant-loop-l : goal.invariant-loop-l
invariant-loop-l l = (q : ℕ) → (contains nat_cmp l.taken q || is_member nat_eq
    (drop l.l-index l.at) q)
    ≡ (contains nat_cmp l.fn.taken q || is_member nat_eq l.at q)
