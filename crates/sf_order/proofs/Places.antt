-- A number for each resource, when one is put in another's place.
-- Names: `put-LAW`.
use Rattle.std.specs.Prelude.{◌≡◌, ◌≢◌, ◌⊎◌, ℕ, ◌<◌, List, length, replicate, set}
use Rattle.std.specs.List.{sum_by}
use Rattle.std.proofs.Common.{ap, inl, inr, arith}
use Rattle.std.proofs.lemmas.Bool.Decides.{eqb_tells}
use Rattle.std.proofs.lemmas.List.{get_or-replicate, get_or-set_other, get_or-set_same, length-set}
use Rattle.std.proofs.lemmas.List.Sums.{sum_by-set}
use Rattle.sf_base.specs.declared.ids.ResId.{ResId}
use Rattle.sf_calls.specs.Checked.Lemmas.Decided.{resource}
use Rattle.sf_order.specs.Rank.{rank_in}

-- a resource is another one or not
pub same-or_not : (r q : ResId) → (r ≡ q) ⊎ (r.0 ≢ q.0)
same-or_not r q = elim (eqb_tells r.0 q.0) [ inl e ↦ inl (ap resource e.1) | inr e ↦ inr e.1 ]

-- the resource's own number
pub put-here : (xs : List ℕ) (r : ResId) (k : ℕ) → r.0 < length xs → rank_in (set xs r.0 k) r ≡ k
put-here xs r k h = get_or-set_same xs r.0 k 0 h

-- those of others
pub put-other : (xs : List ℕ) (r q : ResId) (k : ℕ) → q.0 ≢ r.0 → rank_in (set xs r.0 k) q ≡ rank_in xs q
put-other xs r q k n = get_or-set_other xs r.0 q.0 k 0 n

-- how many there are
pub put-length : (xs : List ℕ) (i k : ℕ) → length (set xs i k) ≡ length xs
put-length xs i k = length-set xs i k

-- where all are one number
pub all-are : (n k : ℕ) (r : ResId) → r.0 < n → rank_in (replicate n k) r ≡ k
all-are n k r h = get_or-replicate n r.0 k 0 h

-- the sum of what a smaller number is put in
pub put-sum : (f : ℕ → ℕ) (xs : List ℕ) (r : ResId) (k : ℕ) → r.0 < length xs → f k < f (rank_in xs r)
    → sum_by f (set xs r.0 k) < sum_by f xs
put-sum f xs r k h less =
    let e : _ = sum_by-set f xs r.0 k 0 h in
    omega (arith, e, less)
