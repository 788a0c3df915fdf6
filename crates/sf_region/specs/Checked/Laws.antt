-- What events of a task at a table keep, and what a spent task comes to, for its callers.
-- Lamport (1978): the clock tells whether there was an event.
use Rattle.std.specs.Prelude.{◌≡◌, ℕ, List, []}
use Rattle.sf_base.specs.declared.ids.ResId.{ResId}
use Rattle.sf_core.specs.Machine.Config.{Path, Config}
use Rattle.sf_core.specs.Machine.Numbered.{NumberedFrom}
use Rattle.sf_core.specs.Machine.SpentSteps.{SpentSteps}
use Rattle.sf_core.specs.Machine.Step.{Event}
use Rattle.sf_core.specs.Machine.Supplies.{Supply, has, units}
use Rattle.sf_core.specs.Program.Syntax.{Program}
use Rattle.sf_part.specs.Answers.{Answers}
use Rattle.sf_part.specs.declared.local.Local.TheVariants.{AtRegion, AtExit, AtFork, Spent}
use Rattle.sf_part.specs.Supplied.{Supplied}
use Rattle.sf_part.specs.Timed.{TimedPart}
use Rattle.sf_region.specs.declared.views.Begun.{Begun}
use Rattle.sf_region.specs.Drained.{Drained, IsGoing}
use Rattle.sf_region.specs.Holdings.{Advance, Holding}
use Rattle.sf_region.specs.Marks.{Mark}
use Rattle.sf_region.specs.Waits.{BeganAt, first_of, opening_parts, program_in}
use Rattle.sf_spend.specs.Counting.{IsDividedAs}

-- where the clock is as it was there was no event
unfoldable pub StillClocksHaveNoEvent : Type 0
StillClocksHaveNoEvent = (p : Program) (a b : Holding) (marks : List Mark) → Advance p a marks b
    → b.part.clock ≡ a.part.clock → marks ≡ []

-- a task that has no unit for its next step, or that stands at a region, an exit or a parallel
-- call, would go on
unfoldable pub StoppedTasksGoOn : Type 0
StoppedTasksGoOn = (p : Program) (a : TimedPart) → (Answers p a Spent → IsGoing a)
    × ((r : ResId) → Answers p a (AtRegion r) → IsGoing a)
    × ((r : ResId) → Answers p a (AtExit r) → IsGoing a)
    × (Answers p a AtFork → IsGoing a)

-- where a numbered list of events from the start led to where the table began, and the first part
-- says what the entry was given, a task that the table tells of as drained has spent its steps
unfoldable pub DrainedTasksHaveSpentSteps : Type 0
DrainedTasksHaveSpentSteps = (b : Begun) (start c : Config) (base count used : ℕ) (path : Path)
    (supply : Supply) (before : List Event) → IsDividedAs start.tasks (has (units base count))
    → NumberedFrom (program_in b) start (has (units base count)) before c supply
    → BeganAt b c → Supplied (opening_parts b) supply → (first_of b).given ≡ count
    → Drained b path used → SpentSteps (program_in b) start base count path used
