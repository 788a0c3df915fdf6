-- Laws of rankings and of cycles, and what a ranking promises of runs.
-- Ordered resources rule out circular waits: Coffman, Elphick and Shoshani, "System Deadlocks" (1971).
use Rattle.std.specs.Prelude.{◌≡◌, ◌<◌, ◌⊎◌, ℕ, List, All, length}
use Rattle.sf_base.specs.declared.ids.ProcId.{ProcId}
use Rattle.sf_base.specs.declared.ids.ResId.{ResId}
use Rattle.sf_base.specs.HeapStore.{Heap, Store}
use Rattle.sf_core.specs.Machine.Config.{Config}
use Rattle.sf_core.specs.Machine.Reach.{Reach}
use Rattle.sf_core.specs.Machine.Start.{Start}
use Rattle.sf_core.specs.Machine.Step.{Event}
use Rattle.sf_core.specs.Program.Formed.{IsFormed}
use Rattle.sf_core.specs.Program.Syntax.{Program}
use Rattle.sf_calls.specs.FirstBreach.{Conditions}
use Rattle.sf_order.specs.Answers.{AreBelow}
use Rattle.sf_order.specs.Circle.{Circle}
use Rattle.sf_order.specs.Cycles.{IsCycle, IsFirstCycle}
use Rattle.sf_order.specs.Nests.{ArePairsOf, IsPair, Nests}
use Rattle.sf_order.specs.Rank.{AreByRank, IsRanking, Rises}

-- where pairs have a ranking they have no cycle
abbrev pub RankedHaveNoCycle : Type 0
RankedHaveNoCycle = (pairs : List (ResId × ResId)) (count : ℕ) (ranks : List ℕ) → AreBelow count pairs
    → IsRanking (IsPair pairs) count ranks → (xs : List ResId) → IsCycle (IsPair pairs) xs → ⊥

-- a ranking rises along each pair
abbrev pub RanksRise : Type 0
RanksRise = (pairs : List (ResId × ResId)) (count : ℕ) (ranks : List ℕ) → AreBelow count pairs
    → IsRanking (IsPair pairs) count ranks → All (Rises ranks) pairs

-- a program's resources have ranks, or there is a first cycle, and not both; there is one ranking, and one first cycle
pub record IsOrdered (p : Program) : Type 0 where
  pub ranks : (ranks others : List ℕ) → IsRanking (Nests p) (length p.resources) ranks
      → IsRanking (Nests p) (length p.resources) others → ranks ≡ others
  pub cycles : (xs ys : List ResId) → IsFirstCycle (Nests p) xs → IsFirstCycle (Nests p) ys → xs ≡ ys
  pub apart : (ranks : List ℕ) (xs : List ResId) → IsRanking (Nests p) (length p.resources) ranks
      → IsFirstCycle (Nests p) xs → ⊥
  pub some : ((ranks : List ℕ) × IsRanking (Nests p) (length p.resources) ranks
      × All (λ rank. rank < length p.resources) ranks) ⊎ ((xs : List ResId) × IsFirstCycle (Nests p) xs)

abbrev pub EachProgramIsOrdered : Type 0
EachProgramIsOrdered = (p : Program) → IsFormed p → IsOrdered p

-- there is one list of resources by ranks that are below their count
pub record IsListedOnce (count : ℕ) (ranks : List ℕ) : Type 0 where
  pub one : (rs qs : List ResId) → AreByRank count ranks rs → AreByRank count ranks qs → rs ≡ qs
  pub some : length ranks ≡ count → All (λ rank. rank < count) ranks → (rs : List ResId) × AreByRank count ranks rs

abbrev pub ResourcesAreListedOnce : Type 0
ResourcesAreListedOnce = (count : ℕ) (ranks : List ℕ) → IsListedOnce count ranks

-- of a program that keeps the conditions on variables: where ranks rise along each pair of which the first nests the
-- second, no configuration that is reached from a start is a Circle
abbrev pub NoCircleIsReached : Type 0
NoCircleIsReached = (p : Program) (pairs : List (ResId × ResId)) (ranks : List ℕ) (f : ProcId) (store : Store)
    (heap : Heap) (start c : Config) (events : List Event) → IsFormed p → Conditions p → ArePairsOf p pairs
    → All (Rises ranks) pairs → Start p f store heap start → Reach p start events c → Circle c → ⊥
