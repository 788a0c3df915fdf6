-- What is so of a task that goes on alone, while resources are set up.
-- O'Hearn (2007): what a task owns is enough for it, whatever the others do.
use Rattle.std.specs.Prelude.{◌≡◌, ◌⊎◌, ◌+◌, ◌<◌, ◌≤◌, ◌*◌, ◌^◌, List, ◌∷◌, length}
use Rattle.sf_base.specs.declared.ids.ResId.{ResId}
use Rattle.sf_base.specs.declared.limits.TheConstants.{STEPS, TURNS}
use Rattle.sf_calls.specs.Conditions.{Takes}
use Rattle.sf_core.specs.Machine.Config.{Config}
use Rattle.sf_core.specs.Machine.Step.{Event}
use Rattle.sf_core.specs.Machine.Whole.{Part, Content, Whole, numbers}
use Rattle.sf_core.specs.Program.Syntax.{Program}
use Rattle.sf_own.specs.Checked.Safe.{IsSafe}
use Rattle.sf_part.specs.Answers.{Answers}
use Rattle.sf_part.specs.Checked.LawsOfGoing.{IsPastSetup}
use Rattle.sf_part.specs.Checked.LawsOfSettingUp.{IsSettingUp}
use Rattle.sf_part.specs.declared.local.Local.TheVariants.{AtInit, Done}
use Rattle.sf_part.specs.declared.part.Part.{Part as CodePart}
use Rattle.sf_part.specs.Keeps.{Keeps}
use Rattle.sf_part.specs.Lent.{Lends}
use Rattle.sf_part.specs.PartView.{IsPartOf, part_of}
use Rattle.sf_part.specs.Timed.{TimedPart}
use Rattle.sf_safe.specs.Checked.Contract.{Known}
use Rattle.sf_setup.specs.declared.forks.Parted.{Parted}
use Rattle.sf_setup.specs.declared.stop.SetUpStop.{SetUpStop}
use Rattle.sf_setup.specs.declared.stop.SetUpStop.TheVariants.{Steps, OutOfMemory}
use Rattle.sf_setup.specs.Draining.{Drains}
use Rattle.sf_setup.specs.Going.{GoesBy}

-- some whole has the part
abbrev pub IsWithin : Part → Type 0
IsWithin a = (others : List Part) × (contents : List Content) × (c : Config)
    × Whole (a ∷ others) contents c

-- the task was begun for a procedure that takes no resource, itself or by what it calls, and none
-- of its frames sets them up
pub record IsBelow (p : Program) (owed : Known) (a : Part) : Type 0 where
  pub past : IsPastSetup p a
  pub takes : (r : ResId) → Takes p owed.fixed.procedure r → ⊥

-- IsAlone: a task of the program is safe, and sets the resources up, or was made by one that does;
-- and each turn of its path has halved the units that a run may have
pub record IsAlone (p : Program) (a : CodePart) : Type 0 where
  pub of : IsPartOf p a
  pub within : IsWithin (part_of a).part
  pub owed : Known
  pub safe : IsSafe p owed (part_of a).part
  pub quiet : IsSettingUp p (part_of a).part ⊎ IsBelow p owed (part_of a).part
  pub room : length (numbers (part_of a).part.supply) * 2 ^ length (part_of a).part.task ≤ STEPS

-- HasGone: it has gone on, at the path that it has
pub record HasGone (p : Program) (a b : CodePart) : Type 0 where
  pub alone : IsAlone p b
  pub events : List Event
  pub goes : GoesBy p (part_of a) events (part_of b)
  pub level : length (part_of b).part.task ≡ length (part_of a).part.task

-- HasMoved: it has gone on, by one event of its own at least
pub record HasMoved (p : Program) (a b : CodePart) : Type 0 where
  pub alone : IsAlone p b
  pub events : List Event
  pub goes : GoesBy p (part_of a) events (part_of b)
  pub later : (part_of a).clock < (part_of b).clock
  pub limit : (part_of b).clock ≤ STEPS

-- HasCome: it has gone on to where it ends, or returns from the procedure that sets the resources
-- up
pub record HasCome (p : Program) (a b : CodePart) : Type 0 where
  pub alone : IsAlone p b
  pub events : List Event
  pub goes : GoesBy p (part_of a) events (part_of b)
  pub keeps : Keeps (part_of b)
  pub stands : Answers p (part_of b) Done ⊎ Answers p (part_of b) AtInit

-- HasEnded: it has gone on to its end
pub record HasEnded (p : Program) (a b : CodePart) : Type 0 where
  pub alone : IsAlone p b
  pub events : List Event
  pub goes : GoesBy p (part_of a) events (part_of b)
  pub done : Answers p (part_of b) Done

-- HasDrained: why it doesn't come so far: it, or a task that it has made, has no unit left; or
-- memory ran out
abbrev pub HasDrained : Program → TimedPart → SetUpStop → Type 0
HasDrained p a (Steps path given) = (events : List Event) × Drains p a events path given
HasDrained p a OutOfMemory = Unit {0}

-- HasParted: the task has forked, and its children go on alone, a turn further down
pub record HasParted (p : Program) (a : CodePart) (f : Parted) : Type 0 where
  pub alone : IsAlone p a
  pub keeps : Keeps (part_of a)
  pub event : Event
  pub lends : Lends p event (part_of a) (part_of f.waits) (part_of f.left) (part_of f.right)
  pub waits_of : IsPartOf p f.waits
  pub left : IsAlone p f.left
  pub right : IsAlone p f.right
  pub left_past : IsPastSetup p (part_of f.left).part
  pub right_past : IsPastSetup p (part_of f.right).part
  pub turns : length (part_of a).part.task < TURNS
  pub left_deeper : length (part_of f.left).part.task ≡ length (part_of a).part.task + 1
  pub right_deeper : length (part_of f.right).part.task ≡ length (part_of a).part.task + 1

-- MayMeet: the children of a task that has forked have ended
pub record MayMeet (p : Program) (a : CodePart) (waits left right : CodePart) : Type 0 where
  pub one : CodePart
  pub two : CodePart
  pub parted : HasParted p a (record { waits = waits; left = one; right = two })
  pub left_ended : HasEnded p one left
  pub right_ended : HasEnded p two right
