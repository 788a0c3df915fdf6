use Rattle.std.proofs.Common.{eqb, Contains, subst, sym}
use Rattle.std.proofs.lemmas.List.Filters.{dedup_is}
use Rattle.std.proofs.lemmas.List.Kept.{Contains-dedup_nat, Contains-from_dedup}
use Rattle.std.proofs.lemmas.List.Sorted.{Contains-permutation, IsPermutation-sym}
use Rattle.std.proofs.lemmas.Map.Keys.{IsStrictlyIncreasing-dedup}
use Rattle.sf_heap.proofs.locations.Locations.from_vec.Goals as goal

-- what is left of sorted numbers rises
pub invariant_of-result : goal.invariant_of-result
invariant_of-result c = rw (dedup_is eqb _ _ c.dedup.ensures.filtered) (IsStrictlyIncreasing-dedup _ c.sort_unstable.ensures.sorted)

pub returns-clause-rising : goal.returns-clause-rising
returns-clause-rising c = rw (dedup_is eqb _ _ c.dedup.ensures.filtered) (IsStrictlyIncreasing-dedup _ c.sort_unstable.ensures.sorted)

-- sorting and leaving repeats out loses no number
pub returns-clause-same : goal.returns-clause-same
returns-clause-same c = λ l. (
  (λ h. Contains-permutation _ _ l (IsPermutation-sym _ _ c.sort_unstable.ensures.permutation)
      (Contains-from_dedup eqb _ l (subst (λ ys. Contains ys l) (dedup_is eqb _ _ c.dedup.ensures.filtered) h))),
  (λ h. subst (λ ys. Contains ys l) (sym (dedup_is eqb _ _ c.dedup.ensures.filtered))
      (Contains-dedup_nat _ l (Contains-permutation _ _ l c.sort_unstable.ensures.permutation h))),
)
