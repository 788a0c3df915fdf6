-- Laws of replays, stated.
-- A definition by cases owes its reader that no two cases hold.
use Rattle.std.specs.Prelude.{◌≡◌, ◌↔◌, ◌⊎◌, ◌<◌, ℕ, Bool, List, length, take}
use Rattle.sf_base.specs.declared.ids.ProcId.{ProcId}
use Rattle.sf_base.specs.HeapStore.{Heap, Store}
use Rattle.sf_core.specs.Machine.Bad.{Bad}
use Rattle.sf_core.specs.Machine.Config.{Config}
use Rattle.sf_core.specs.Machine.Reach.{Reach}
use Rattle.sf_core.specs.Machine.Sound.{IsSound}
use Rattle.sf_core.specs.Machine.Start.{Start}
use Rattle.sf_core.specs.Machine.Step.{Event}
use Rattle.sf_core.specs.Program.Formed.{IsFormed}
use Rattle.sf_core.specs.Program.Syntax.{Program}
use Rattle.sf_foot.specs.declared.vars.Vars.{Vars}
use Rattle.sf_foot.specs.Starting.{StartsWith}
use Rattle.sf_heap.specs.Cells.{Cells}
use Rattle.sf_machine.specs.Reached.{IsReached}
use Rattle.sf_replay.specs.declared.found.Found.{Found}
use Rattle.sf_replay.specs.declared.found.Found.TheVariants.{Clean}
use Rattle.sf_replay.specs.declared.found.ReplayFault.{ReplayFault}
use Rattle.sf_replay.specs.Replays.{Finds, FromStart, LeadsSafely, Stops}

-- one thing is found of a list of events, or nothing for one reason, and not both
pub record IsReplayedOnce (p : Program) (start : Config) (events : List Event) : Type 0 where
  pub found : (one other : Found) → Finds p start events one → Finds p start events other → one ≡ other
  pub faults : (one other : ReplayFault) → Stops p start events one → Stops p start events other → one ≡ other
  pub apart : (found : Found) (fault : ReplayFault) → Finds p start events found → Stops p start events fault → ⊥

-- so it is of each list of events from each configuration
unfoldable pub EventsAreReplayedOnce : Type 0
EventsAreReplayedOnce = (p : Program) (start : Config) (events : List Event) → IsReplayedOnce p start events

-- no configuration is bad that is reached by fewer than all of the events
abbrev pub NoneBadBefore : Program → Config → List Event → Type 0
NoneBadBefore p start events = (count : ℕ) (d : Config) → count < length events
    → Reach p start (take count events) d → Bad d → ⊥

-- events lead safely to a configuration exactly where they lead to it, and none before it is bad
unfoldable pub SafeRunsAreRuns : Type 0
SafeRunsAreRuns = (p : Program) (start c : Config) (events : List Event)
    → LeadsSafely p start events c ↔ (Reach p start events c × NoneBadBefore p start events)

-- something is found of the events from there, or nothing for a reason
abbrev pub IsReplayed : Program → Config → List Event → Type 0
IsReplayed p start events = ((found : Found) × Finds p start events found)
    ⊎ ((fault : ReplayFault) × Stops p start events fault)

-- so it is of each list of events from a configuration that a program's run reaches
unfoldable pub EventsAreReplayed : Type 0
EventsAreReplayed = (p : Program) (start : Config) (events : List Event) → IsFormed p → IsReached p start
    → IsReplayed p start events

-- so it is of each list of events from each start of a procedure
unfoldable pub StartsAreReplayed : Type 0
StartsAreReplayed = (p : Program) (f : ProcId) (fresh : Bool) (vars : Vars) (heap : Cells) (parts : List (List ℕ))
    (events : List Event) → IsFormed p → StartsWith p f fresh vars heap parts
    → FromStart p f fresh vars heap (λ c. IsReplayed p c events)

-- from a start of a sound program nothing is found, whatever the events are
unfoldable pub SoundRunsAreClean : Type 0
SoundRunsAreClean = (p : Program) (f : ProcId) (store : Store) (heap : Heap) (start : Config) (events : List Event)
    (found : Found) → IsSound p → Start p f store heap start → Finds p start events found → found ≡ Clean
