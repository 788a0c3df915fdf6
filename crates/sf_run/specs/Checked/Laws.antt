-- Laws of runs of one task: what they come to is one thing, comes of each proved program, and comes
-- by a numbered run.
-- Hoare, "An Axiomatic Basis for Computer Programming" (1969): sequential programs; Wright and
-- Felleisen, "A Syntactic Approach to Type Soundness" (1994): each configuration has ended, or goes
-- on.
use Rattle.std.specs.Prelude.{◌≡◌, ◌⊎◌, ℕ, suc, Bool, List, [], ◌∷◌, None, map}
use Rattle.sf_base.specs.declared.ids.ProcId.{ProcId}
use Rattle.sf_base.specs.declared.ids.ResId.{ResId}
use Rattle.sf_base.specs.HeapStore.{Heap, Store}
use Rattle.sf_core.specs.Machine.Alone.{Outcome, finished, spent, waiting, WaitsAlone, event_alone, Alone}
use Rattle.sf_core.specs.Machine.Config.{Config}
use Rattle.sf_core.specs.Machine.Enabled.{HasEnded}
use Rattle.sf_core.specs.Machine.Good.{Good}
use Rattle.sf_core.specs.Machine.Numbered.{Numbered, NumberedFrom}
use Rattle.sf_core.specs.Machine.Reach.{Reach}
use Rattle.sf_core.specs.Machine.SpentSteps.{SpentSteps}
use Rattle.sf_core.specs.Machine.SpentWaits.{IsAtRegion, SpentWaits}
use Rattle.sf_core.specs.Machine.Start.{Start}
use Rattle.sf_core.specs.Machine.Step.{Event, Step}
use Rattle.sf_core.specs.Machine.Supplies.{has, units}
use Rattle.sf_core.specs.Program.Formed.{IsFormed}
use Rattle.sf_core.specs.Program.Syntax.{Program}
use Rattle.sf_calls.specs.FirstBreach.{Conditions}
use Rattle.sf_foot.specs.declared.vars.Vars.{Vars}
use Rattle.sf_foot.specs.Starting.{IsFreshFrom, StartsWith}
use Rattle.sf_heap.specs.Cells.{Cells, heap_of}
use Rattle.sf_machine.specs.Beginning.{Begins}
use Rattle.sf_machine.specs.Ending.{Ends}
use Rattle.sf_run.specs.Checked.Lone.{IsLone, IsFreeFrom, IsBase}
use Rattle.sf_run.specs.Running.{ComesTo, IsNumberedEnd}
use Rattle.sf_run.specs.Sequential.{BeginsSequentially, InitIsSequential, IsSequential, IsSequentialStart}
use Rattle.sf_core.specs.Machine.Sound.{IsSound}

-- from each start and each supply of units comes at most one outcome
unfoldable pub OutcomesAreUnique : Type 0
OutcomesAreUnique = (p : Program) (start : Config) (base count : ℕ) (one other : Outcome)
    → Alone p start base count one → Alone p start base count other → one ≡ other

-- where no parallel call can be reached from the entry, there is one task and it never makes
-- another
unfoldable pub SequentialRunsAreLone : Type 0
SequentialRunsAreLone = (p : Program) (f : ProcId) (store : Store) (heap : Heap) (start c : Config)
    (events : List Event) → (s : Start p f store heap start) → BeginsSequentially p f s.beginning
    → Reach p start events c → IsLone p c

-- the units from a base on are never used before, and no cell is at them
unfoldable pub BasesAreFree : Type 0
BasesAreFree = (p : Program) (f : ProcId) (store : Store) (heap : Heap) (start : Config) (base : ℕ)
    → Start p f store heap start → IsBase base start → IsFreeFrom base start

-- after an event that takes a unit, the next ones are as free as this one was
unfoldable pub UnitsStayFree : Type 0
UnitsStayFree = (p : Program) (unit : ℕ) (c d : Config) → IsFreeFrom unit c → Step p (event_alone unit) c d
    → IsFreeFrom (suc unit) d

-- in a program that meets the conditions on variables, no region is entered again inside of it:
-- where a lone task is at a region, its resource is free
unfoldable pub LoneTasksFindRegionsFree : Type 0
LoneTasksFindRegionsFree = (p : Program) (f : ProcId) (store : Store) (heap : Heap) (start c : Config)
    (events : List Event) (r : ResId) → IsFormed p → Conditions p → (s : Start p f store heap start)
    → BeginsSequentially p f s.beginning → Reach p start events c → IsAtRegion c [] r → c.common.held r ≡ None

-- the entry's task has ended, or waits at a region, or has a step by that unit
abbrev pub GoesAlone : Program → ℕ → Config → Type 0
GoesAlone p unit c = HasEnded [] c.tasks ⊎ (((r : ResId) × WaitsAlone c r)
    ⊎ ((d : Config) × Step p (event_alone unit) c d))

-- a lone task of a good configuration that hasn't ended waits for a condition only, or goes on
unfoldable pub LoneTasksProgress : Type 0
LoneTasksProgress = (p : Program) (f : ProcId) (store : Store) (heap : Heap) (start c : Config)
    (events : List Event) (unit : ℕ) → IsFormed p → Conditions p → (s : Start p f store heap start)
    → BeginsSequentially p f s.beginning → Reach p start events c → Good p c → IsFreeFrom unit c → GoesAlone p unit c

-- all that events lead to from that configuration is good
abbrev pub StaysGood : Program → Config → Type 0
StaysGood p start = (events : List Event) (c : Config) → Reach p start events c → Good p c

-- each start from which only good configurations are reached has an outcome, for each number of
-- units
unfoldable pub OutcomesExist : Type 0
OutcomesExist = (p : Program) (f : ProcId) (store : Store) (heap : Heap) (start : Config) (base count : ℕ)
    → IsFormed p → Conditions p → (s : Start p f store heap start) → BeginsSequentially p f s.beginning
    → StaysGood p start → IsBase base start → (out : Outcome) × Alone p start base count out

-- what comes of the procedure from these variables and cells is one thing
pub record HasOneOutcome (p : Program) (f : ProcId) (is_fresh : Bool) (vars : Vars) (heap : Cells) (base count : ℕ)
    : Type 0 where
  pub out : Outcome
  pub comes : ComesTo p f is_fresh vars heap base count out
  pub only : (other : Outcome) → ComesTo p f is_fresh vars heap base count other → out ≡ other

-- in a sound program that meets the conditions on variables, so it is of each start, for each
-- number of units
unfoldable pub StartsHaveOneOutcome : Type 0
StartsHaveOneOutcome = (p : Program) (f : ProcId) (is_fresh : Bool) (vars : Vars) (heap : Cells)
    (parts : List (List ℕ)) (unit count : ℕ) → IsFormed p → Conditions p → IsSound p
    → IsSequentialStart p f is_fresh → StartsWith p f is_fresh vars heap parts → IsFreshFrom vars heap unit
    → HasOneOutcome p f is_fresh vars heap unit count

-- two ends are the same: in the values of variables and in the cells
pub record EndsSame (vars other : Vars) (heap more : Cells) : Type 0 where
  pub own : vars.own.items ≡ other.own.items
  pub shared : map (λ vs. vs.items) vars.shared.items ≡ map (λ vs. vs.items) other.shared.items
  pub cells : heap_of heap ≡ heap_of more

-- a configuration has one end at most
unfoldable pub EndsAreUnique : Type 0
EndsAreUnique = (p : Program) (f : ProcId) (c : Config) (vars other : Vars) (heap more : Cells)
    → Ends p f c vars heap → Ends p f c other more → EndsSame vars other heap more

-- the configuration in which a procedure begins with variables and cells that are a start of it, is
-- a start
unfoldable pub BeginningsAreStarts : Type 0
BeginningsAreStarts = (p : Program) (f : ProcId) (is_fresh : Bool) (vars : Vars) (heap : Cells)
    (parts : List (List ℕ)) (c : Config) → StartsWith p f is_fresh vars heap parts → Begins p f is_fresh vars heap c
    → (store : Store) × Start p f store (heap_of heap) c

-- what a numbered run reaches, its events lead to
unfoldable pub NumberedRunsReach : Type 0
NumberedRunsReach = (p : Program) (start c : Config) (base count : ℕ) (events : List Event)
    → Numbered p start base count events c → Reach p start events c

-- a procedure begins in one configuration at most, fresh or not
unfoldable pub BeginningsAreUnique : Type 0
BeginningsAreUnique = (p : Program) (f : ProcId) (is_fresh : Bool) (vars : Vars) (heap : Cells) (c d : Config)
    → Begins p f is_fresh vars heap c → Begins p f is_fresh vars heap d → c ≡ d

-- where no parallel call can be reached, what a run ends in is that
unfoldable pub EndsAreNumbered : Type 0
EndsAreNumbered = (p : Program) (f : ProcId) (is_fresh : Bool) (vars : Vars) (heap : Cells) (parts : List (List ℕ))
    (start c : Config) (base count : ℕ) → IsSequentialStart p f is_fresh → StartsWith p f is_fresh vars heap parts
    → Begins p f is_fresh vars heap start → Alone p start base count (finished c) → IsNumberedEnd p start base count c

-- and the other way round: where a numbered list of events leads to a configuration in which the
-- entry has ended, that is what comes of the run
unfoldable pub NumberedEndsComeAlone : Type 0
NumberedEndsComeAlone = (p : Program) (f : ProcId) (is_fresh : Bool) (vars : Vars) (heap : Cells)
    (parts : List (List ℕ)) (start c : Config) (base count : ℕ) → IsSequentialStart p f is_fresh
    → StartsWith p f is_fresh vars heap parts → Begins p f is_fresh vars heap start
    → IsNumberedEnd p start base count c → Alone p start base count (finished c)

-- where the entry's task has used all units that it was given, and would go on, that is
unfoldable pub SpentStepsComeAlone : Type 0
SpentStepsComeAlone = (p : Program) (f : ProcId) (is_fresh : Bool) (vars : Vars) (heap : Cells)
    (parts : List (List ℕ)) (start : Config) (base count used : ℕ) → IsSequentialStart p f is_fresh
    → StartsWith p f is_fresh vars heap parts → Begins p f is_fresh vars heap start
    → SpentSteps p start base count [] used → (used ≡ count) × Alone p start base count spent

-- where a numbered list leads to a configuration in which it is at a region whose condition is
-- false, and leaves it a unit, that is
unfoldable pub WaitsComeAlone : Type 0
WaitsComeAlone = (p : Program) (f : ProcId) (is_fresh : Bool) (vars : Vars) (heap : Cells)
    (parts : List (List ℕ)) (start c : Config) (base count : ℕ) (events : List Event) (unit : ℕ)
    (left : List ℕ) (r : ResId) → IsSequentialStart p f is_fresh
    → StartsWith p f is_fresh vars heap parts → Begins p f is_fresh vars heap start
    → NumberedFrom p start (has (units base count)) events c (has (unit ∷ left))
    → (HasEnded [] c.tasks → ⊥) → WaitsAlone c r → Alone p start base count (waiting r)

-- where it has used its units, it was given so many, had as many events, and would go on
unfoldable pub SpentRunsHaveUsedAll : Type 0
SpentRunsHaveUsedAll = (p : Program) (f : ProcId) (store : Store) (heap : Heap) (start : Config) (base count : ℕ)
    → (s : Start p f store heap start) → BeginsSequentially p f s.beginning → Alone p start base count spent
    → SpentSteps p start base count [] count

-- where it waits for a condition, it tries the region in vain as often as one likes
unfoldable pub WaitingRunsTryInVain : Type 0
WaitingRunsTryInVain = (p : Program) (f : ProcId) (store : Store) (heap : Heap) (start : Config) (base count : ℕ)
    (r : ResId) → IsFormed p → Conditions p → (s : Start p f store heap start)
    → BeginsSequentially p f s.beginning → Alone p start base count (waiting r) → (tries : ℕ) → SpentWaits p start base count [] r tries

-- a parallel call can be reached from a procedure, or none can
unfoldable pub SequentialIsDecided : Type 0
SequentialIsDecided = (p : Program) (f : ProcId) → IsSequential p f ⊎ (IsSequential p f → ⊥)

-- one can be reached from the procedure that sets the resources up, or none can
unfoldable pub InitSequentialIsDecided : Type 0
InitSequentialIsDecided = (p : Program) → IsFormed p → InitIsSequential p ⊎ (InitIsSequential p → ⊥)
