-- Drained: that some list of events from where a table began has used up what a task was given.
-- Fuel of a task, which its events and those of its descendants use up; fork-join parallelism, Lea,
-- "A Java Fork/Join Framework" (2000).
use Rattle.std.specs.Prelude.{◌≡◌, ℕ, ◌+◌, List, Some, Contains}
use Rattle.sf_core.specs.Machine.Config.{Path, Config, Frame, Task, runs, task_at}
use Rattle.sf_core.specs.Machine.Enabled.{HasEnded}
use Rattle.sf_core.specs.Machine.SpentSteps.{NeedsNoChild, Spending, SpendingFrom}
use Rattle.sf_core.specs.Machine.Supplies.{Supply}
use Rattle.sf_core.specs.Machine.Whole.{running}
use Rattle.sf_part.specs.Supplied.{Supplied}
use Rattle.sf_part.specs.Timed.{TimedPart}
use Rattle.sf_region.specs.declared.views.Begun.{Begun}
use Rattle.sf_region.specs.Marks.{Mark, events_of, Arrives}
use Rattle.sf_region.specs.Stamps.{units_of}
use Rattle.sf_region.specs.Waits.{BeganAt, first_of, opening_parts, program_in}

-- IsGoing: the task runs and hasn't ended
abbrev pub IsGoing : TimedPart → Type 0
IsGoing a = (frames : List Frame) × (a.part.stand ≡ running frames)
    × (HasEnded a.part.task (runs frames) → ⊥)

-- MayHaveSpent: what the task at a path may have been given and have used where the table begins:
-- of the first part's task, what that part says; of one that isn't there yet, anything
pub record MayHaveSpent (first : TimedPart) (task : Path) (s : Spending) : Type 0 where
  pub given : task ≡ first.part.task → s.given ≡ first.given
  pub used : task ≡ first.part.task → s.used + units_of first ≡ s.given

-- Grants: wherever the table began, what the list of events says that the task of each part was
-- given is what the part says
pub record Grants (b : Begun) (marks : List Mark) (parts : List TimedPart) : Type 0 where
  pub given : (c : Config) → BeganAt b c → (supply : Supply) → Supplied (opening_parts b) supply
      → (s last : Spending) (d : Config) (a : TimedPart) → Contains parts a
      → MayHaveSpent (first_of b) a.part.task s
      → SpendingFrom (program_in b) a.part.task c supply s (events_of marks) d last
      → last.given ≡ a.given

-- Drains: from that configuration these events lead to one where the task is there, would go on,
-- and has used just what it was given
pub record Drains (b : Begun) (task : Path) (given : ℕ) (marks : List Mark) (c : Config) : Type 0
  where
    pub arrives : Arrives (program_in b) (opening_parts b) c marks
    pub spends : (supply : Supply) → Supplied (opening_parts b) supply → (s : Spending)
        → MayHaveSpent (first_of b) task s
        → SpendingFrom (program_in b) task c supply s (events_of marks) arrives.config
        (record { given = given; used = given })
    pub at : Task
    pub there : task_at task arrives.config.tasks ≡ Some at
    pub going : HasEnded task at → ⊥
    pub alone : NeedsNoChild at

-- Drained: some list of events does, from each configuration at which the table began
pub record Drained (b : Begun) (task : Path) (given : ℕ) : Type 0 where
  pub marks : List Mark
  pub drains : (c : Config) → BeganAt b c → Drains b task given marks c
