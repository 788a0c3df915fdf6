-- Examples of cycles, of ranks, of what nests, and of circles.
-- Two locks that are taken in opposite order: Dijkstra, "Hierarchical Ordering of Sequential Processes" (1971).
use Rattle.std.specs.Prelude.{◌==◌, false, cond, List, [], ◌∷◌, Option, Some, None}
use Rattle.sf_base.specs.declared.ids.ResId.{ResId}
use Rattle.sf_base.specs.declared.path.Turn.TheVariants.{Left as left, Right as right}
use Rattle.sf_core.specs.declared.assertion.Test.TheVariants.{True}
use Rattle.sf_core.specs.Checked.Machine.Examples.{calls, emp, here, procedure}
use Rattle.sf_core.specs.Machine.Config.{Item, command, leave, Fixed, Task, runs, waits, Path, Config}
use Rattle.sf_core.specs.Machine.Start.{entry_slot}
use Rattle.sf_core.specs.Machine.Step.{task_with}
use Rattle.sf_core.specs.Program.Syntax.{Command, call, with, Block, done, then, Program, Resource}
use Rattle.sf_order.specs.Circle.{Circle}
use Rattle.sf_order.specs.Cycles.{IsFirstCycle}
use Rattle.sf_order.specs.Nests.{IsPair, Nests}
use Rattle.sf_order.specs.Rank.{IsRanking}

-- the first three resources
abbrev pub a : ResId
a = record { 0 = 0 }

abbrev pub b : ResId
b = record { 0 = 1 }

abbrev pub c : ResId
c = record { 0 = 2 }

-- ---- cycles

-- two in opposite order
abbrev pub opposite : List (ResId × ResId)
opposite = (a, b) ∷ (b, a) ∷ []

-- they are the first cycle, from the first of them on
unfoldable pub OppositeOrderIsACycle : Type 0
OppositeOrderIsACycle = IsFirstCycle (IsPair opposite) (a ∷ b ∷ [])

-- that cycle from the second of them on isn't the first
unfoldable pub CyclesBeginWithTheirFirst : Type 0
CyclesBeginWithTheirFirst = IsFirstCycle (IsPair opposite) (b ∷ a ∷ []) → ⊥

-- nor is that cycle twice
unfoldable pub LongerCyclesAreNotFirst : Type 0
LongerCyclesAreNotFirst = IsFirstCycle (IsPair opposite) (a ∷ b ∷ a ∷ b ∷ []) → ⊥

-- the first with either of two others
abbrev pub forked : List (ResId × ResId)
forked = (a, b) ∷ (a, c) ∷ (b, a) ∷ (c, a) ∷ []

-- of two cycles that are as short the one through the later resource isn't the first
unfoldable pub LaterCyclesAreNotFirst : Type 0
LaterCyclesAreNotFirst = IsFirstCycle (IsPair forked) (a ∷ c ∷ []) → ⊥

-- ---- ranks

-- one inside the other, three deep
abbrev pub chain : List (ResId × ResId)
chain = (a, b) ∷ (a, c) ∷ (b, c) ∷ []

unfoldable pub ChainsHaveRanks : Type 0
ChainsHaveRanks = IsRanking (IsPair chain) 3 (0 ∷ 1 ∷ 2 ∷ [])

-- from the other end they are none
unfoldable pub RanksBeginAtTheTop : Type 0
RanksBeginAtTheTop = IsRanking (IsPair chain) 3 (2 ∷ 1 ∷ 0 ∷ []) → ⊥

-- nor with a gap
unfoldable pub RanksHaveNoGaps : Type 0
RanksHaveNoGaps = IsRanking (IsPair chain) 3 (0 ∷ 1 ∷ 3 ∷ []) → ⊥

-- ---- what nests

-- with that resource when (true) { .. }
abbrev pub region : ResId → Block → Command
region r body = with here r True body

-- a resource without variables
abbrev pub lock : Resource
lock = record { name = []; variables = []; invariant = emp }

-- f() [emp] { with a when (true) { g(); } } [emp], and g() [emp] { with b when (true) { } } [emp]
abbrev pub calling : Program
calling = record {
  fields = [];
  resources = lock ∷ lock ∷ [];
  procedures = procedure [] 0 0 emp (then (region a (then (call here (calls 1 [])) done)) done)
      ∷ procedure [] 0 0 emp (then (region b done) done) ∷ [];
}

-- what a call inside a region takes is nested in it
unfoldable pub CallsNest : Type 0
CallsNest = Nests calling a b

-- and nothing the other way round
unfoldable pub NothingNestsBack : Type 0
NothingNestsBack = Nests calling b a → ⊥

-- a region isn't nested in itself
unfoldable pub RegionsDoNotNestThemselves : Type 0
RegionsDoNotNestThemselves = Nests calling a a → ⊥

-- ---- circles

-- a frame of the first procedure
abbrev pub frame : Fixed
frame = record {
  procedure = record { 0 = 0 };
  slots = entry_slot;
  room = record { event = 0; first = 0; count = 0 };
}

-- a task that is inside the region of the one, if there is one, and stands at that of the other
abbrev pub standing : List Item → ResId → Task
standing inside r = task_with frame (command (region r done) ∷ inside) []

-- a configuration with these holders and tasks
abbrev pub config : (ResId → Option Path) → Task → Config
config held tasks = record {
  common = record { heap = λ location. None; store = λ slot. None; held = held };
  used = λ number. false;
  tasks = tasks;
}

-- two tasks, each of which holds what the other waits for
unfoldable pub OppositeTasksAreACircle : Type 0
OppositeTasksAreACircle = Circle (config
    (λ r. cond (r.0 == 0) (Some (left ∷ [])) (cond (r.0 == 1) (Some (right ∷ [])) None))
    (waits [] (standing (leave a ∷ []) b) (standing (leave b ∷ []) a)))

-- a task that holds what its own child waits for
unfoldable pub ChildrenWaitForParents : Type 0
ChildrenWaitForParents = Circle (config (λ r. cond (r.0 == 0) (Some []) None)
    (waits (record { fixed = frame; todo = leave a ∷ [] } ∷ []) (standing [] a) (runs [])))

-- a task that waits for what is free is no circle
unfoldable pub FreeResourcesAreNoCircle : Type 0
FreeResourcesAreNoCircle = Circle (config (λ r. cond (r.0 == 0) (Some []) None) (standing (leave a ∷ []) b)) → ⊥
