-- Laws of lists of events: where one of the same events leads in which what depends on one another keeps its order, and
-- where that leads which a log gives.
-- Mazurkiewicz (1977); Brookes (2007): what doesn't race may change places; Lamport (1978) for logs.
use Rattle.std.specs.Prelude.{◌≡◌, ◌<◌, ℕ, List, Some, Contains, map}
use Rattle.sf_base.specs.declared.ids.ProcId.{ProcId}
use Rattle.sf_base.specs.declared.value.Value.TheVariants.{Nil as nil}
use Rattle.sf_base.specs.HeapStore.{Cell, Heap, Store}
use Rattle.sf_core.specs.Machine.Bad.{Bad}
use Rattle.sf_core.specs.Machine.Config.{Config, Path}
use Rattle.sf_core.specs.Machine.Numbered.{Numbered}
use Rattle.sf_core.specs.Machine.Reach.{Reach}
use Rattle.sf_core.specs.Machine.Start.{Start}
use Rattle.sf_core.specs.Machine.Step.{Event}
use Rattle.sf_core.specs.Program.Formed.{IsFormed}
use Rattle.sf_core.specs.Program.Syntax.{Program}
use Rattle.sf_part.specs.Timed.{Stamped}
use Rattle.sf_replay.specs.declared.schedule.Scheduled.{Scheduled}
use Rattle.sf_replay.specs.ScheduleText.{events_of}
use Rattle.sf_trace.specs.Logs.{IsLogOf}
use Rattle.sf_journal.specs.Merge.{Merges}
use Rattle.sf_journal.specs.Reorders.{Reorders, ReachesByNumbers, AreUnlocated}

-- nothing bad is reached from there, by whatever events
abbrev pub IsNeverBad : Program → Config → Type 0
IsNeverBad p start = (events : List Event) (c : Config) → Reach p start events c → Bad c → ⊥

-- from a start from which nothing bad is reached, let a list of events reach a configuration, each cell that is made
-- standing at its event's number, and no such number be a location of the start's heap: then each list that reorders
-- it reaches the same configuration
unfoldable pub ReorderingsReachTheSame : Type 0
ReorderingsReachTheSame = (p : Program) (f : ProcId) (store : Store) (heap : Heap) (start c : Config)
    (events others : List Event) → IsFormed p → Start p f store heap start → IsNeverBad p start
    → ReachesByNumbers p start events c → AreUnlocated start events → Reorders p start events others
    → Reach p start others c

-- each location of the heap is below that number
abbrev pub IsBelow : Config → ℕ → Type 0
IsBelow c unit = (location : ℕ) (cell : Cell) → c.common.heap location ≡ Some cell → location < unit

-- from such a start, let a numbered list reach a configuration, with units above each location of the start's heap: then
-- the schedule that is merged from a log of it reaches the same configuration
unfoldable pub MergedLogsReachTheSame : Type 0
MergedLogsReachTheSame = (p : Program) (f : ProcId) (store : Store) (heap : Heap) (start c : Config)
    (base count fields : ℕ) (events : List Event) (log : List Stamped) (schedule : List Scheduled) → IsFormed p
    → Start p f store heap start → IsNeverBad p start → IsBelow start base → Numbered p start base count events c
    → IsLogOf p start events c log → Merges fields log schedule → Reach p start (events_of schedule) c

-- each run has a log, which can be merged
unfoldable pub RunsHaveJournals : Type 0
RunsHaveJournals = (p : Program) (c d : Config) (events : List Event) (fields : ℕ) → Reach p c events d
    → (log : List Stamped) × IsLogOf p c events d log × (schedule : List Scheduled) × Merges fields log schedule

-- in such a schedule each cell that is made stands at its event's number, with all fields nil
unfoldable pub MergedCellsAreEmpty : Type 0
MergedCellsAreEmpty = (fields : ℕ) (log : List Stamped) (schedule : List Scheduled) (event : Event)
    → Merges fields log schedule → Contains (events_of schedule) event
    → (event.at ≡ event.number) × ((field : ℕ) → event.fields field ≡ nil)

-- an event as a log tells of it: its cell, if it makes one, stands at its number, with all fields nil
abbrev pub as_told : Event → Event
as_told event = record { task = event.task; number = event.number; at = event.number; fields = λ field. nil }

-- where all events are of one task, a schedule that is merged from a log has them in their order
unfoldable pub LogsOfOneTaskKeepItsOrder : Type 0
LogsOfOneTaskKeepItsOrder = (p : Program) (c d : Config) (events : List Event) (fields : ℕ) (log : List Stamped)
    (schedule : List Scheduled) (task : Path) → ((event : Event) → Contains events event → event.task ≡ task)
    → IsLogOf p c events d log → Merges fields log schedule → events_of schedule ≡ map as_told events
