-- Ways along a relation, and how many steps they have.
-- Ordinary: walks of a directed graph and the distances of its vertices from one.
use Rattle.std.specs.Prelude.{◌≡◌, ◌<◌, ◌≤◌, ◌+◌, ℕ, List, [], ◌∷◌, Contains, length}
use Rattle.sf_base.specs.declared.ids.ResId.{ResId}
use Rattle.sf_order.specs.Cycles.{Leads, IsNotAfter}
use Rattle.sf_order.specs.Rank.{rank_in}

-- a way from x through those to v, which is the last of them, or x itself where there are none
abbrev pub Way : (ResId → ResId → Type 0) → ResId → List ResId → ResId → Type 0
Way R x [] v = x ≡ v
Way R x (y ∷ ys) v = R x y × Way R y ys v

-- no resource is there twice
abbrev pub AreDifferent : List ResId → Type 0
AreDifferent [] = Unit {0}
AreDifferent (x ∷ xs) = (Contains xs x → ⊥) × AreDifferent xs

-- for each of the first n resources the steps of a shortest way to v, and n where there is none
pub record AreSteps (R : ResId → ResId → Type 0) (v : ResId) (n : ℕ) (steps : List ℕ) : Type 0 where
  pub each : length steps ≡ n
  pub there : v.0 < n
  pub reached : (x : ResId) → x.0 < n → rank_in steps x < n
      → (ys : List ResId) × (length ys ≡ rank_in steps x) × Way R x ys v
  pub least : (x : ResId) (ys : List ResId) → Way R x ys v → rank_in steps x ≤ length ys

-- the first of the pair is at most one step further than the second
abbrev pub IsNear : List ℕ → ResId × ResId → Type 0
IsNear steps e = rank_in steps e.0 ≤ rank_in steps e.1 + 1

-- it is one of the pairs, and further
abbrev pub IsLonger : List ℕ → List (ResId × ResId) → ResId × ResId → Type 0
IsLonger steps pairs e = Contains pairs e × (rank_in steps e.1 + 1 < rank_in steps e.0)

-- the fewest steps of those to which v is related, or n
pub record IsFewest (R : ResId → ResId → Type 0) (steps : List ℕ) (v : ResId) (n least : ℕ) : Type 0 where
  pub below : least ≤ n
  pub no_fewer : (x : ResId) → R v x → least ≤ rank_in steps x
  pub some : least < n → (x : ResId) × R v x × (rank_in steps x ≡ least)

-- the first of those to which x is related and that are so many steps away
pub record IsFirstAt (R : ResId → ResId → Type 0) (steps : List ℕ) (x : ResId) (away : ℕ) (y : ResId) : Type 0 where
  pub related : R x y
  pub is : rank_in steps y ≡ away
  pub first : (z : ResId) → R x z → rank_in steps z ≡ away → y.0 ≤ z.0

-- x leads through those to v, and no others as many come before them
pub record IsLeastWay (R : ResId → ResId → Type 0) (x : ResId) (ws : List ResId) (v : ResId) : Type 0 where
  pub leads : Leads R x ws v
  pub first : (ys : List ResId) → Leads R x ys v → length ys ≡ length ws → IsNotAfter ws ys

-- the list is v and such a way from it to itself, with so many between
abbrev pub IsLeastCycle : (ResId → ResId → Type 0) → ResId → ℕ → List ResId → Type 0
IsLeastCycle R v least xs = (ws : List ResId) × (xs ≡ v ∷ ws) × (length ws ≡ least) × IsLeastWay R v ws v
