-- Replayed: what is said of a schedule of a procedure's events, which files the work comes to, and in which order.
-- O'Hearn (2007); Brookes (2007): an interleaving on one heap, its memory faults and its races.
use Rattle.std.specs.Prelude.{◌≡◌, ℕ, ◌⊎◌, Bool, Option, Some, List}
use Rattle.sf_base.specs.declared.ids.ProcId.{ProcId}
use Rattle.sf_core.specs.Machine.Step.{procedure_at}
use Rattle.sf_core.specs.Program.Syntax.{Procedure, Program}
use Rattle.sf_foot.specs.declared.vars.Vars.{Vars}
use Rattle.sf_heap.specs.Cells.{Cells}
use Rattle.sf_io.specs.Shelf.{Files}
use Rattle.sf_machine.specs.declared.event.Stepped.{Stepped}
use Rattle.sf_replay.specs.declared.found.Found.{Found}
use Rattle.sf_replay.specs.declared.found.ReplayFault.TheVariants.{NotAnEvent}
use Rattle.sf_replay.specs.declared.schedule.Scheduled.{Scheduled}
use Rattle.sf_replay.specs.declared.schedule.ScheduleFault.{ScheduleFault}
use Rattle.sf_replay.specs.Replays.{Finds, FromStart, Stops}
use Rattle.sf_replay.specs.ScheduleText.{GivesSchedule, events_of, schedule_refusal}
use Rattle.sf_state.specs.Entering.{IsEntry, IsEntryFault}
use Rattle.sf_state.specs.Starts.{IsStartFault, IsStartText}
use Rattle.sf_state.specs.declared.fault.StartFault.{StartFault}
use Rattle.sf_cli.specs.FileFault.{Admits, FileFault}
use Rattle.sf_cli.specs.FoundText.{found_status, found_text, no_event_text, schedule_refusal_text}
use Rattle.sf_cli.specs.Refusals.{refusal_text}
use Rattle.sf_cli.specs.SoundFile.{MayHave}
use Rattle.sf_cli.specs.StartRefusals.{start_refusal_text}
use Rattle.sf_cli.specs.declared.refusal.Refusal.{Refusal}
use Rattle.sf_words.specs.Words.{Text}

-- the answer to the text of a schedule, from the start of procedure f with these variables and cells: the text is no
-- schedule; or one of its events is none, and nothing is bad before it; or this is found
pub data ScheduleAnswer (p : Program) (f : ProcId) (fresh : Bool) (vars : Vars) (heap : Cells) (given text : Text)
    (status : ℕ) : Type 0 where
  no_schedule : (e : ScheduleFault) → schedule_refusal p.fields given ≡ Some e → text ≡ schedule_refusal_text e
      → status ≡ 11 → ScheduleAnswer p f fresh vars heap given text status
  no_event : (schedule : List Scheduled) (number : ℕ) (why : Stepped) → GivesSchedule p.fields given schedule
      → FromStart p f fresh vars heap (λ c. Stops p c (events_of schedule) (NotAnEvent number why))
      → text ≡ no_event_text schedule number why → status ≡ 11 → ScheduleAnswer p f fresh vars heap given text status
  replayed : (schedule : List Scheduled) (found : Found) → GivesSchedule p.fields given schedule
      → FromStart p f fresh vars heap (λ c. Finds p c (events_of schedule) found) → text ≡ found_text p found
      → status ≡ found_status found → ScheduleAnswer p f fresh vars heap given text status

-- the same where the text is that of the file of this name
abbrev pub ScheduleFileAnswer : Option Files → Program → ProcId → (fresh : Bool) → Vars → Cells → (name text : Text)
    → (status : ℕ) → Type 0
ScheduleFileAnswer told p f fresh vars heap name text status =
    (given : Text) × MayHave told name given × ScheduleAnswer p f fresh vars heap given text status

-- the answer to the text of a state: it is no start of procedure f; or it is one, and this is the answer to the schedule
-- that has this name
pub data BegunAnswer (told : Option Files) (p : Program) (f : ProcId) (given schedule_name text : Text) (status : ℕ)
    : Type 0 where
  not_begun : (g : Procedure) (e : StartFault) → procedure_at p f ≡ Some g → IsStartFault p g given e
      → text ≡ start_refusal_text e → status ≡ 5 → BegunAnswer told p f given schedule_name text status
  begun : (g : Procedure) (vars : Vars) (heap : Cells) (parts : List (List ℕ)) (unit : ℕ) (fresh : Bool)
      → procedure_at p f ≡ Some g → IsStartText p f g given vars heap parts unit fresh
      → ScheduleFileAnswer told p f fresh vars heap schedule_name text status
      → BegunAnswer told p f given schedule_name text status

-- the same where the text is that of the file of this name
abbrev pub StateFileAnswer : Option Files → Program → ProcId → (state_name schedule_name text : Text) → (status : ℕ)
    → Type 0
StateFileAnswer told p f state_name schedule_name text status =
    (given : Text) × MayHave told state_name given × BegunAnswer told p f given schedule_name text status

-- the answer for a program with which nothing is wrong, whether it is proved or not: there is no such entry; or there is
-- one, and this is the answer to the state that has this name
pub data EnteredAnswer (told : Option Files) (p : Program) (entry state_name schedule_name text : Text) (status : ℕ)
    : Type 0 where
  not_entered : (e : StartFault) → IsEntryFault p entry e → text ≡ start_refusal_text e → status ≡ 5
      → EnteredAnswer told p entry state_name schedule_name text status
  is_entered : (f : ProcId) → IsEntry p entry f → StateFileAnswer told p f state_name schedule_name text status
      → EnteredAnswer told p entry state_name schedule_name text status

-- the same for a program's file of these bytes: the file is refused, or it is the answer for its program
pub data ReplayAnswer (told : Option Files) (bytes entry state_name schedule_name text : Text) (status : ℕ) : Type 0 where
  refused_replay : (r : Refusal) → FileFault bytes r → text ≡ refusal_text r → status ≡ 3
      → ReplayAnswer told bytes entry state_name schedule_name text status
  admitted_replay : (p : Program) → Admits bytes p → EnteredAnswer told p entry state_name schedule_name text status
      → ReplayAnswer told bytes entry state_name schedule_name text status

-- ---- which files the work comes to beside the program's

-- the text is a start of procedure f
pub record IsStartOf (p : Program) (f : ProcId) (given : Text) : Type 0 where
  pub procedure : Procedure
  pub there : procedure_at p f ≡ Some procedure
  pub vars : Vars
  pub heap : Cells
  pub parts : List (List ℕ)
  pub unit : ℕ
  pub fresh : Bool
  pub starts : IsStartText p f procedure given vars heap parts unit fresh

-- once the state is read, the schedule's: where that is a start
abbrev pub ComesByState : Program → ProcId → (given schedule_name name : Text) → Type 0
ComesByState p f given schedule_name name = (name ≡ schedule_name) × IsStartOf p f given

-- once the entry is known, the state's; and the schedule's, where the state's may be that of a start
abbrev pub ComesByEntry : Option Files → Program → ProcId → (state_name schedule_name name : Text) → Type 0
ComesByEntry told p f state_name schedule_name name = (name ≡ state_name)
    ⊎ ((given : Text) × MayHave told state_name given × ComesByState p f given schedule_name name)

-- once the program is known, these, where there is such an entry
abbrev pub ComesByProgram : Option Files → Program → (entry state_name schedule_name name : Text) → Type 0
ComesByProgram told p entry state_name schedule_name name =
    (f : ProcId) × IsEntry p entry f × ComesByEntry told p f state_name schedule_name name

-- once the bytes of its file are, these, where they are those of a program with which nothing is wrong
abbrev pub ComesByBytes : Option Files → (bytes entry state_name schedule_name name : Text) → Type 0
ComesByBytes told bytes entry state_name schedule_name name =
    (p : Program) × Admits bytes p × ComesByProgram told p entry state_name schedule_name name
