-- What the code plans for an event.
-- Ordinary: an effect on what is shared and a change of the task, or why there is none.
use Rattle.std.specs.Prelude.{◌≡◌, ◌≢◌, false, Some, [], ◌∷◌}
use Rattle.sf_core.specs.Machine.Config.{Task, Config, runs, task_at}
use Rattle.sf_core.specs.Machine.Step.{Event, TaskStep}
use Rattle.sf_core.specs.Program.Syntax.{Program}
use Rattle.sf_frame.specs.declared.effect.Effect.{Effect}
use Rattle.sf_frame.specs.declared.effect.Effect.TheVariants.{OpenBoth}
use Rattle.sf_frame.specs.declared.plan.Plan.{Plan as StackPlan}
use Rattle.sf_frame.specs.declared.plan.Plan.TheVariants.{Acts as acts, Forks as forks, Refused as refused}
use Rattle.sf_frame.specs.declared.refusal.Refusal.{Refusal}
use Rattle.sf_frame.specs.declared.refusal.Refusal.TheVariants.{Absent as absent, Waiting as waiting, Stale as stale, TooDeep as too_deep}
use Rattle.sf_frame.specs.Checked.Effects.{applied, EffectWithin, Suits}
use Rattle.sf_frame.specs.Frames.{frame_of}
use Rattle.sf_machine.specs.declared.event.Stepped.{Stepped}
use Rattle.sf_machine.specs.declared.event.Stepped.TheVariants.{Moved, Absent, Waiting, Stale, TooDeep}
use Rattle.sf_machine.specs.declared.plan.Plan.{Plan}
use Rattle.sf_machine.specs.declared.plan.Plan.TheVariants.{Acts, Refused}
use Rattle.sf_machine.specs.declared.task.Change.{Change}
use Rattle.sf_machine.specs.declared.task.Change.TheVariants.{Steps, Fork}
use Rattle.sf_machine.specs.Answers.{Answers}
use Rattle.sf_machine.specs.Checked.Tasks.{moved}
use Rattle.sf_machine.specs.Tasks.{task_of}

-- what a step answers for that reason
abbrev pub answer_of : Refusal → Stepped
answer_of (absent v) = Absent v
answer_of (waiting r) = Waiting r
answer_of stale = Stale
answer_of too_deep = TooDeep

-- the plan is that one for a stack of frames, with the frames of a fork's children as tasks of their own
abbrev pub IsPlanOf : StackPlan → Plan → Type 0
IsPlanOf (acts effect change) (Acts e (Steps c)) = (e ≡ effect) × (c ≡ change)
IsPlanOf (forks left right) (Acts e (Fork one two)) = (e ≡ OpenBoth left.opening right.opening)
    × (task_of one.value ≡ runs (frame_of left.frame ∷ [])) × (task_of two.value ≡ runs (frame_of right.frame ∷ []))
IsPlanOf (refused why) (Refused answer) = answer ≡ answer_of why
IsPlanOf _ _ = ⊥

-- the event's number is new, and the effect and the change are what it makes of a task that is
-- there
pub record IsPlanned (p : Program) (ev : Event) (c : Config) (effect : Effect) (change : Change) : Type 0 where
  pub fresh : c.used ev.number ≡ false
  pub task : Task
  pub there : task_at ev.task c.tasks ≡ Some task
  pub steps : TaskStep p ev c.common task (applied ev effect c.common) (moved change task)
  pub suits : Suits ev effect c.common
  pub within : EffectWithin p effect

-- the plan is that of an event
abbrev pub PlansEvent : Program → Event → Config → Plan → Type 0
PlansEvent p ev c (Acts effect change) = IsPlanned p ev c effect change
PlansEvent p ev c (Refused why) = Answers p ev c why × (why ≢ Moved)
