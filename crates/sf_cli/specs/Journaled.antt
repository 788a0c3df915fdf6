-- Journaled: what is said of a run whose events are told: what the run ends with, and its events as a schedule.
-- Lamport, "Time, Clocks, and the Ordering of Events in a Distributed System" (1978): a total order that extends what
-- happened before what.
use Rattle.std.specs.Prelude.{◌≡◌, ◌≢◌, ℕ, Bool, Some, List, [], ◌++◌, codes, decimal, length}
use Rattle.std.specs.List.{flat_map}
use Rattle.sf_base.specs.declared.ids.ProcId.{ProcId}
use Rattle.sf_core.specs.Machine.Config.{Config}
use Rattle.sf_core.specs.Machine.Enabled.{HasEnded}
use Rattle.sf_core.specs.Machine.Numbered.{Numbered}
use Rattle.sf_core.specs.Machine.Step.{Event, procedure_at}
use Rattle.sf_core.specs.Program.Syntax.{Procedure, Program}
use Rattle.sf_foot.specs.declared.vars.Vars.{Vars}
use Rattle.sf_heap.specs.Cells.{Cells}
use Rattle.sf_journal.specs.Merge.{Merges}
use Rattle.sf_machine.specs.Beginning.{Begins}
use Rattle.sf_part.specs.Timed.{Stamped}
use Rattle.sf_replay.specs.ScheduleText.{events_of}
use Rattle.sf_replay.specs.declared.schedule.Scheduled.{Scheduled}
use Rattle.sf_state.specs.Starts.{IsStartText}
use Rattle.sf_trace.specs.Logs.{IsLogOf}
use Rattle.sf_cli.specs.Ran.{IsFinishedText}
use Rattle.sf_cli.specs.TaskText.{task_text}
use Rattle.sf_words.specs.Words.{Text}

-- the line of an event: its task and its number
abbrev pub event_line : Event → Text
event_line event = task_text event.task ++ codes " " ++ decimal event.number ++ codes "\n"

-- the events as a schedule
abbrev pub schedule_text : List Event → Text
schedule_text events = codes "schedule\n" ++ flat_map event_line events

-- the events are those that the log tells of, merged
abbrev pub AreMerged : Program → (log : List Stamped) → List Event → Type 0
AreMerged p log events =
    (schedule : List Scheduled) × Merges (length p.fields) log schedule × (events ≡ events_of schedule)

-- from where the procedure begins, numbered events lead to where the entry has ended, of which this is the text; and the
-- list of events is merged from a log of them
pub record IsJournal (p : Program) (f : ProcId) (g : Procedure) (fresh : Bool) (vars : Vars) (heap : Cells)
    (base steps : ℕ) (shown : Text) (events : List Event) : Type 0 where
  pub start : Config
  pub begins : Begins p f fresh vars heap start
  pub made : List Event
  pub last : Config
  pub numbered : Numbered p start base steps made last
  pub ended : HasEnded [] last.tasks
  pub is : IsFinishedText p g last shown
  pub log : List Stamped
  pub logged : IsLogOf p start made last log
  pub merged : AreMerged p log events

-- the same from the start that the text of a state gives
pub record StateJournal (p : Program) (f : ProcId) (given : Text) (steps : ℕ) (shown : Text) (events : List Event)
    : Type 0 where
  pub procedure : Procedure
  pub there : procedure_at p f ≡ Some procedure
  pub vars : Vars
  pub heap : Cells
  pub parts : List (List ℕ)
  pub unit : ℕ
  pub fresh : Bool
  pub starts : IsStartText p f procedure given vars heap parts unit fresh
  pub journal : IsJournal p f procedure fresh vars heap unit steps shown events

-- what is said where a run is to tell its events: as of the run where that hasn't ended; and else what is said of the
-- run, and then a journal of it
pub data WithJournal (Answer : Text → ℕ → Type 0) (Journal : Text → List Event → Type 0) (text : Text) (status : ℕ)
    : Type 0 where
  unfinished : status ≢ 0 → Answer text status → WithJournal Answer Journal text status
  journaled : (shown : Text) (events : List Event) → Answer shown 0 → Journal shown events
      → text ≡ shown ++ schedule_text events → status ≡ 0 → WithJournal Answer Journal text status
