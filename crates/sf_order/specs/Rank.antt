-- Rank: how far up in the order of nesting each resource is.
-- Ordinary: the height of a vertex of an acyclic graph, the length of the longest path that ends there.
use Rattle.std.specs.Prelude.{◌≡◌, ◌<◌, ◌≤◌, ◌⊎◌, ℕ, suc, List, All, length, get_or, slice_get, take, Some}
use Rattle.sf_base.specs.declared.ids.ResId.{ResId}
use Rattle.sf_calls.specs.Sets.{IsSetOf}

-- the rank of a resource in a list that has one for each, in file order
abbrev pub rank_in : List ℕ → ResId → ℕ
rank_in ranks r = get_or ranks r.0 0

-- the rank of s is 0 where none is related to s
abbrev pub IsLowest : (ResId → ResId → Type 0) → (ResId → ℕ) → ResId → Type 0
IsLowest R rank s = (rank s ≡ 0) × ((r : ResId) → R r s → ⊥)

-- else it is one more than the greatest rank of those that are
pub record IsOneMore (R : ResId → ResId → Type 0) (rank : ResId → ℕ) (s : ResId) : Type 0 where
  pub below : ResId
  pub related : R below s
  pub is : rank s ≡ suc (rank below)
  pub greatest : (r : ResId) → R r s → rank r ≤ rank below

-- Rank: the list has for each of so many resources its rank
pub record IsRanking (R : ResId → ResId → Type 0) (count : ℕ) (ranks : List ℕ) : Type 0 where
  pub each : length ranks ≡ count
  pub is : (s : ResId) → s.0 < count → IsLowest R (rank_in ranks) s ⊎ IsOneMore R (rank_in ranks) s

-- the first of the pair has the lower rank
abbrev pub Rises : List ℕ → ResId × ResId → Type 0
Rises ranks e = rank_in ranks e.0 < rank_in ranks e.1

-- e is the first of the pairs of which that isn't so
pub record IsFirstLevel (ranks : List ℕ) (pairs : List (ResId × ResId)) (e : ResId × ResId) : Type 0 where
  pub place : ℕ
  pub there : slice_get pairs place ≡ Some e
  pub level : Rises ranks e → ⊥
  pub before : All (Rises ranks) (take place pairs)

-- r has a lower rank, or the same and comes first in the file
abbrev pub IsLower : List ℕ → ResId → ResId → Type 0
IsLower ranks r s = (rank_in ranks r < rank_in ranks s) ⊎ ((rank_in ranks r ≡ rank_in ranks s) × (r.0 < s.0))

-- the list has the first so many resources, by rank and then by file order
abbrev pub AreByRank : ℕ → List ℕ → List ResId → Type 0
AreByRank count ranks rs = IsSetOf (IsLower ranks) (λ r. r.0 < count) rs
