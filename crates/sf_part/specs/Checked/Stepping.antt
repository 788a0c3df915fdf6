-- What is planned for a private event of a part, and what comes of it.
-- Ordinary: an effect on what the part has, and a change of its frames.
use Rattle.std.specs.Prelude.{◌≡◌, ◌≢◌, ◌⊎◌, ◌+◌, ◌==◌, ℕ, List, ◌++◌, drop, length, map, Some}
use Rattle.sf_base.specs.declared.ids.ResId.{ResId}
use Rattle.sf_base.specs.declared.value.Value.{Value}
use Rattle.sf_base.specs.HeapStore.{Slot}
use Rattle.sf_core.specs.Machine.Config.{Frame, runs, Common}
use Rattle.sf_core.specs.Machine.Enabled.{variable, Reads, Writes}
use Rattle.sf_core.specs.Machine.Next.{next}
use Rattle.sf_core.specs.Machine.Step.{Event, TaskStep}
use Rattle.sf_core.specs.Machine.Supplies.{has, NextTakes}
use Rattle.sf_core.specs.Machine.Whole.{running, numbers}
use Rattle.sf_core.specs.Program.Syntax.{Program}
use Rattle.sf_frame.specs.Commons.{common_of}
use Rattle.sf_frame.specs.Checked.Effects.{applied, HasField, IsMore, Suits}
use Rattle.sf_frame.specs.Checked.Frames.{moved, IsCall}
use Rattle.sf_frame.specs.Checked.Nexts.{IsNext}
use Rattle.sf_frame.specs.declared.effect.Effect.{Effect}
use Rattle.sf_frame.specs.declared.following.Next.{Next}
use Rattle.sf_frame.specs.declared.stack.Change.{Change}
use Rattle.sf_heap.specs.Cells.{cell_of}
use Rattle.sf_part.specs.Answers.{AnswersOf, NeedsRoom}
use Rattle.sf_part.specs.declared.local.Local.TheVariants.{Moved}
use Rattle.sf_part.specs.declared.part.Part.{Part}
use Rattle.sf_part.specs.declared.stepping.Plan.{Plan}
use Rattle.sf_part.specs.declared.stepping.Plan.TheVariants.{Acts, Says}
use Rattle.sf_part.specs.Keeps.{IsUnmade}
use Rattle.sf_part.specs.Of.{FramesAreOf, frames_in}
use Rattle.sf_part.specs.Parts.{entry_of}
use Rattle.sf_part.specs.PartView.{part_of}
use Rattle.sf_part.specs.Stands.{stand_in}
use Rattle.sf_part.specs.Steps.{IsPrivate}
use Rattle.sf_part.specs.Timed.{noted}
use Rattle.sf_core.specs.Checked.Machine.InOrder.{regions}

-- the event of a part's task with that number; a `new` makes its cell there, with nil in each field
abbrev pub own_event : Part → (number : ℕ) → Event
own_event a number = record {
  task = a.task;
  number = number;
  at = number;
  fields = cell_of a.blank;
}

-- what the event makes of what the part has
abbrev pub acted : Part → (number : ℕ) → Effect → Common
acted a number effect = applied (own_event a number) effect (common_of a.shared)

-- the other numbers stay unmade, and the holders as they are
pub record IsOwnEffect (a : Part) (number : ℕ) (effect : Effect) : Type 0 where
  pub suits : Suits (own_event a number) effect (common_of a.shared)
  pub field : HasField effect a.shared.heap
  pub unmade : (n : ℕ) → n ≢ number → IsUnmade (common_of a.shared).heap (common_of a.shared).store
      n
      → IsUnmade (acted a number effect).heap (acted a number effect).store n
  pub held : (acted a number effect).held ≡ (common_of a.shared).held

-- the effect and the change are those of a private event
pub record ActsLocally (p : Program) (a : Part) (number : ℕ) (effect : Effect) (change : Change)
    (frames : List Frame) : Type 0 where
  pub private : IsPrivate p (next (runs frames))
  pub steps : TaskStep p (own_event a number) (common_of a.shared) (runs frames)
      (acted a number effect)
      (runs (moved change frames))
  pub takes : NextTakes (own_event a number) (next (runs frames)) (has (numbers a.supply))
      (has (drop 1 (numbers a.supply)))
  pub slots : (slot : Slot)
      → Reads (common_of a.shared).store (next (runs frames)) (variable slot)
      ⊎ Writes (common_of a.shared).store (next (runs frames)) (variable slot)
      → (v : Value) × ((common_of a.shared).store slot ≡ Some v)
  pub own : IsOwnEffect a number effect
  pub of : FramesAreOf p (acted a number effect).store (moved change frames)
  pub regions : (r : ResId) → regions p r (moved change frames) ≡ regions p r frames
  pub room : IsMore effect ⊎ IsCall change → NeedsRoom (next (runs frames))

-- the plan is that of the next step of a part, or says why it isn't the task's own affair
abbrev pub PlansOf : Program → Part → List Frame → Plan → Type 0
PlansOf p a frames (Acts number effect change) = AnswersOf p (part_of a) frames Moved
    × ActsLocally p a number effect change frames
PlansOf p a frames (Says answer) = (answer ≢ Moved) × AnswersOf p (part_of a) frames answer

-- so it is of the frames that the part runs
abbrev pub Plans : Program → Part → Plan → Type 0
Plans p a plan = (frames : List Frame) × (stand_in a.stand ≡ running frames)
    × PlansOf p a frames plan

-- that is what the part's frames do next
abbrev pub IsNextOf : Part → Next → Type 0
IsNextOf a what = (frames : List Frame) × (stand_in a.stand ≡ running frames)
    × IsNext frames (length a.task == 0) what

-- what an effect and a change make of a part
pub record IsPerformed (number : ℕ) (effect : Effect) (change : Change) (a b : Part) : Type 0 where
  pub task : b.task ≡ a.task
  pub stand : stand_in b.stand ≡ running (moved change (frames_in (stand_in a.stand)))
  pub common : common_of b.shared ≡ acted a number effect
  pub supply : numbers b.supply ≡ drop 1 (numbers a.supply)
  pub clock : b.clock ≡ a.clock + 1
  pub keeps : b.keeps ≡ a.keeps
  pub given : b.given ≡ a.given
  pub blank : b.blank ≡ a.blank
  pub log : map entry_of b.log.items ≡ map entry_of a.log.items
      ++ noted a.keeps (record { stamp = b.clock; task = a.task; number = number })
