-- Replays: what comes of a list of events from a configuration on, where each configuration is looked at before its
-- next event, and the last one too.
-- O'Hearn (2007); Brookes (2007): an interleaving is such a list.
use Rattle.std.specs.Prelude.{◌≡◌, ◌≤◌, ℕ, Bool, List, [], ◌∷◌, Some, length, take}
use Rattle.std.specs.List.{slice_get}
use Rattle.sf_base.specs.declared.ids.ProcId.{ProcId}
use Rattle.sf_core.specs.Machine.Bad.{Bad}
use Rattle.sf_core.specs.Machine.Config.{Config}
use Rattle.sf_core.specs.Machine.Step.{Event, Step}
use Rattle.sf_core.specs.Program.Syntax.{Program}
use Rattle.sf_foot.specs.declared.vars.Vars.{Vars}
use Rattle.sf_heap.specs.Cells.{Cells}
use Rattle.sf_machine.specs.Accessing.{thing_of}
use Rattle.sf_machine.specs.Answers.{Answers}
use Rattle.sf_machine.specs.Beginning.{Begins}
use Rattle.sf_machine.specs.declared.event.Stepped.{Stepped}
use Rattle.sf_machine.specs.declared.event.Stepped.TheVariants.{Moved, Absent as AbsentCell, Waiting, NoTask, Stale, TooDeep}
use Rattle.sf_replay.specs.declared.found.Found.{Found}
use Rattle.sf_replay.specs.declared.found.Found.TheVariants.{Clean, Absent, Race}
use Rattle.sf_replay.specs.declared.found.ReplayFault.{ReplayFault}
use Rattle.sf_replay.specs.declared.found.ReplayFault.TheVariants.{NotAnEvent, OutOfMemory}
use Rattle.sf_replay.specs.FirstBad.{IsFirstAbsent, IsFirstRace}

-- the events, one after the other, lead from the one configuration to the other, and none before the other is bad
abbrev pub LeadsSafely : Program → Config → List Event → Config → Type 0
LeadsSafely p c [] d = d ≡ c
LeadsSafely p c (event ∷ events) d = (Bad c → ⊥)
    × ((between : Config) × Step p event c between × LeadsSafely p between events d)

-- the first so many of the events lead safely to a configuration of which that holds
pub record LeadsTo (p : Program) (start : Config) (events : List Event) (count : ℕ) (What : Config → Type 0)
    : Type 0 where
  pub config : Config
  pub within : count ≤ length events
  pub leads : LeadsSafely p start (take count events) config
  pub what : What config

-- why an event is none, where nothing is bad before it
abbrev pub IsCause : Stepped → Type 0
IsCause Moved = ⊥
IsCause (AbsentCell v) = ⊥
IsCause (Waiting r) = Unit {0}
IsCause NoTask = Unit {0}
IsCause Stale = Unit {0}
IsCause TooDeep = Unit {0}

-- the configuration isn't bad, and the event of that number, counted from 0, is none there, for that reason
pub record IsStuckAt (p : Program) (events : List Event) (number : ℕ) (why : Stepped) (c : Config) : Type 0 where
  pub fine : Bad c → ⊥
  pub event : Event
  pub there : slice_get events number ≡ Some event
  pub answers : Answers p event c why
  pub cause : IsCause why

-- what is found: nothing bad in the end and before; or, after so many events, the first task at an absent cell, or
-- the first race
abbrev pub Finds : Program → Config → List Event → Found → Type 0
Finds p start events Clean = LeadsTo p start events (length events) (λ c. Bad c → ⊥)
Finds p start events (Absent count path value) = LeadsTo p start events count (λ c. IsFirstAbsent c path value)
Finds p start events (Race count path other thing) =
    LeadsTo p start events count (λ c. IsFirstRace c path other (thing_of thing))

-- why nothing is found: an event is none, and nothing was bad before it
abbrev pub Stops : Program → Config → List Event → ReplayFault → Type 0
Stops p start events (NotAnEvent number why) = LeadsTo p start events number (IsStuckAt p events number why)
Stops p start events OutOfMemory = ⊥

-- it holds of the configuration in which procedure f starts, fresh or not, with these variables and cells
pub record FromStart (p : Program) (f : ProcId) (is_fresh : Bool) (vars : Vars) (heap : Cells) (What : Config → Type 0)
    : Type 0 where
  pub start : Config
  pub begins : Begins p f is_fresh vars heap start
  pub what : What start
