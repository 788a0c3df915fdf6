-- What a step answers: the next configuration, or why there is none.
-- The steps are those of O'Hearn, "Resources, Concurrency and Local Reasoning" (2007).
use Rattle.std.specs.Prelude.{◌≡◌, ◌≢◌, ◌⊎◌, true, false, Option, Some, None}
use Rattle.std.specs.Option.{IsSomeAnd}
use Rattle.sf_core.specs.Machine.Config.{Task, Path, Common, Config, task_at}
use Rattle.sf_core.specs.Machine.Enabled.{HasEnded}
use Rattle.sf_core.specs.Machine.Next.{Next, does, leaves, returns, joins, nothing, next}
use Rattle.sf_core.specs.Machine.Step.{Event, Step}
use Rattle.sf_core.specs.Machine.SpentSteps.{NeedsNoChild}
use Rattle.sf_core.specs.Program.Syntax.{Program}
use Rattle.sf_frame.specs.declared.refusal.Refusal.{Refusal}
use Rattle.sf_frame.specs.declared.refusal.Refusal.TheVariants.{Absent as absent, Waiting as waiting, Stale as stale, TooDeep as too_deep}
use Rattle.sf_frame.specs.Refusals.{Refuses as CommandRefuses}
use Rattle.sf_machine.specs.declared.event.Stepped.{Stepped}
use Rattle.sf_machine.specs.declared.event.Stepped.TheVariants.{Moved, Absent, Waiting, NoTask, Stale, TooDeep}

-- there is such a task at the path, it hasn't ended, and it doesn't wait for a child that hasn't
pub record IsGoing (c : Config) (path : Path) (task : Task) : Type 0 where
  pub there : task_at path c.tasks ≡ Some task
  pub going : HasEnded path task → ⊥
  pub alone : NeedsNoChild task

-- the reason against the event of a command that an answer tells, if it tells one
abbrev pub refusal_in : Stepped → Option Refusal
refusal_in Moved = None
refusal_in (Absent v) = Some (absent v)
refusal_in (Waiting r) = Some (waiting r)
refusal_in NoTask = None
refusal_in Stale = Some stale
refusal_in TooDeep = Some too_deep

-- only a command refuses, for the reason that the answer tells
abbrev pub Refuses : Event → Common → Next → Stepped → Type 0
Refuses ev s (does f below c rest) why = IsSomeAnd (refusal_in why) (CommandRefuses ev s f c)
Refuses ev s (leaves f below r rest) why = ⊥
Refuses ev s (returns f below) why = ⊥
Refuses ev s (joins frames one two) why = ⊥
Refuses ev s nothing why = ⊥

-- there is a task that may go on, and the number was used, or else what comes next refuses
pub record IsRefused (ev : Event) (c : Config) (why : Stepped) : Type 0 where
  pub task : Task
  pub going : IsGoing c ev.task task
  pub cause : ((c.used ev.number ≡ true) × (why ≡ Stale))
      ⊎ ((c.used ev.number ≡ false) × Refuses ev c.common (next task) why)

-- what the step of an event answers
abbrev pub Answers : Program → Event → Config → Stepped → Type 0
Answers p ev c Moved = (d : Config) × Step p ev c d
Answers p ev c (Absent v) = IsRefused ev c (Absent v)
Answers p ev c (Waiting r) = IsRefused ev c (Waiting r)
Answers p ev c NoTask = (task : Task) → IsGoing c ev.task task → ⊥
Answers p ev c Stale = IsRefused ev c Stale
Answers p ev c TooDeep = IsRefused ev c TooDeep

-- no event has two answers, so each of them comes exactly where its cause is
unfoldable pub AnswersAreExclusive : Type 0
AnswersAreExclusive = (p : Program) (ev : Event) (c : Config) (one other : Stepped) → Answers p ev c one
    → Answers p ev c other → one ≡ other

-- where the answer is another than `Moved`, the event leads to no configuration
unfoldable pub RefusedEventsDoNotStep : Type 0
RefusedEventsDoNotStep = (p : Program) (ev : Event) (c d : Config) (why : Stepped) → Answers p ev c why
    → why ≢ Moved → Step p ev c d → ⊥
