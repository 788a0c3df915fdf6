-- The set of the locations that were taken, and the lists of them.
-- Names: `marks-LAW`.
use Rattle.std.proofs.Common.{◌≡◌, ◌⊎◌, ◌<◌, ◌≤◌, ◌+◌, ℕ, zero, suc, true, false, nat_cmp, List, All, Contains, Some, length, take, get_or, sym, ap, ◌∙◌, subst, inl, inr, arith}
use Rattle.std.specs.BTreeSet.{BTreeSet, contains}
use Rattle.std.specs.List.Sorted.{IsStrictlyIncreasing}
use Rattle.std.proofs.lemmas.Bool.{cases_lt, false≢true}
use Rattle.std.proofs.lemmas.List.{get_or-take}
use Rattle.std.proofs.lemmas.List.{length-take}
use Rattle.std.proofs.lemmas.Option.{get_or_from_slice_get, slice_get-get_or}
use Rattle.sf_state.specs.Checked.Found.{IsLeast}
use Rattle.sf_state.proofs.Raising.{read-at}

-- numbers that rise rise further on
rising-further : (xs : List ℕ) (i j : ℕ) → IsStrictlyIncreasing xs → i ≤ j → j < length xs
    → get_or xs i 0 ≤ get_or xs j 0
rising-further xs i zero r h below = subst (λ k. get_or xs i 0 ≤ get_or xs k 0) same (omega arith)
  where
    same : i ≡ zero
    same = omega (arith, h)
rising-further xs i (suc j) r h below = go (λ more. rising-further xs i j r more (omega (arith, below))) (cases_lt j i)
  where
    next : j + 1 ≡ suc j
    next = omega arith

    step : get_or xs j 0 < get_or xs (suc j) 0
    step = subst (λ k. get_or xs j 0 < get_or xs k 0) next (r j (omega (arith, below)))

    go : (i ≤ j → get_or xs i 0 ≤ get_or xs j 0) → ((j < i) ⊎ (i ≤ j)) → get_or xs i 0 ≤ get_or xs (suc j) 0
    go further (inl less) = let same : i ≡ suc j = omega (arith, less, h) in
        subst (λ k. get_or xs i 0 ≤ get_or xs k 0) same (omega arith)
    go further (inr more) = let before = further more in omega (arith, before, step)

-- the first that isn't in the set is the least
pub marks-least : (taken : BTreeSet ℕ) (at xs : List ℕ) (i : ℕ) → xs ≡ at → IsStrictlyIncreasing at → i < length xs
    → All (λ q. contains nat_cmp taken q ≡ true) (take i xs) → contains nat_cmp taken (get_or xs i 0) ≡ false
    → IsLeast (λ l. Contains at l × (contains nat_cmp taken l ≡ false)) (get_or xs i 0)
marks-least taken at xs i same rises below before here = record {
  here = (subst (λ ys. Contains ys (get_or xs i 0)) same (i, below, sym (read-at xs i 0 below)), here);
  least = λ k h. least k (subst (λ ys. Contains ys k) (sym same) h.0) h.1;
}
  where
    least : (k : ℕ) → Contains xs k → contains nat_cmp taken k ≡ false → get_or xs i 0 ≤ k
    least k c out = go (cases_lt c.0 i)
      where
        place : get_or xs c.0 0 ≡ k
        place = get_or_from_slice_get xs c.0 k 0 (slice_get-get_or xs c.0 k c.1 ∙ ap Some c.2)

        go : ((c.0 < i) ⊎ (i ≤ c.0)) → get_or xs i 0 ≤ k
        go (inl less) = absurd (false≢true (sym out ∙ subst (λ q. contains nat_cmp taken q ≡ true)
            (get_or-take i xs c.0 k less ∙ c.2) (before c.0 k (omega (arith, less, below, length-take i xs)))))
        go (inr more) = subst (λ q. get_or xs i 0 ≤ q) place
            (rising-further xs i c.0 (subst IsStrictlyIncreasing (sym same) rises) more c.1)
