-- What a task keeps that goes on, and that it can go on after a fork.
-- O'Hearn (2007), Brookes (2007): what a task does is its own, and what the parallel rule splits it
-- puts together again.
use Rattle.std.specs.Prelude.{◌≡◌, ◌≤◌, ◌*◌, Bool, false, List, [], length, Contains}
use Rattle.sf_base.specs.declared.path.Turn.TheVariants.{Left as left_turn, Right as right_turn}
use Rattle.sf_base.specs.HeapStore.{Slot}
use Rattle.sf_core.specs.Machine.Config.{Frame, runs}
use Rattle.sf_core.specs.Machine.Enabled.{HasEnded}
use Rattle.sf_core.specs.Machine.Next.{next}
use Rattle.sf_core.specs.Machine.Step.{Event}
use Rattle.sf_core.specs.Machine.Whole.{running, numbers, Part}
use Rattle.sf_core.specs.Program.Formed.{IsFormed}
use Rattle.sf_core.specs.Program.Init.{sets_up}
use Rattle.sf_core.specs.Program.Syntax.{Program}
use Rattle.sf_part.specs.Borrowed.{StillHas}
use Rattle.sf_part.specs.Going.{GoesTo, HaveGoneOn}
use Rattle.sf_part.specs.Joining.{GoesOnIn}
use Rattle.sf_part.specs.Keeps.{IsWaiting}
use Rattle.sf_part.specs.Of.{IsOf, frames_in}
use Rattle.sf_part.specs.Steps.{IsChild, IsSettling, Forks, Joins}
use Rattle.sf_part.specs.Timed.{TimedPart}

-- where it goes on twice, it goes on
unfoldable pub GoingComposes : Type 0
GoingComposes = (p : Program) (a b c : TimedPart) → GoesTo p a b → GoesTo p b c → GoesTo p a c

-- it keeps what it was lent
unfoldable pub GoingKeepsLent : Type 0
GoingKeepsLent = (p : Program) (a b : TimedPart) (lent : Slot → Bool) → GoesTo p a b
    → StillHas p lent a.part → StillHas p lent b.part

-- and its path
unfoldable pub GoingKeepsPath : Type 0
GoingKeepsPath = (p : Program) (a b : TimedPart) → GoesTo p a b → b.part.task ≡ a.part.task

-- one that runs runs after it
unfoldable pub GoingKeepsRunning : Type 0
GoingKeepsRunning = (p : Program) (a b : TimedPart) → GoesTo p a b → (IsWaiting a.part.stand → ⊥)
    → IsWaiting b.part.stand → ⊥

-- it has no more units after it
unfoldable pub GoingSpends : Type 0
GoingSpends = (p : Program) (a b : TimedPart) → GoesTo p a b
    → length (numbers b.part.supply) ≤ length (numbers a.part.supply)

-- each child of a fork has at most half of its parent's
unfoldable pub ForksHalve : Type 0
ForksHalve = (p : Program) (event : Event) (a b one two : TimedPart) → Forks p event a b one two
    → (2 * length (numbers one.part.supply) ≤ length (numbers a.part.supply))
    × (2 * length (numbers two.part.supply) ≤ length (numbers a.part.supply))

-- none of the task's frames is of the procedure that sets the resources up
abbrev pub IsPastSetup : Program → Part → Type 0
IsPastSetup p a = (f : Frame) → Contains (frames_in a.stand) f
    → sets_up p f.fixed.procedure ≡ false

-- so it stays, since nothing calls that procedure
unfoldable pub GoingStaysPastSetup : Type 0
GoingStaysPastSetup = (p : Program) (a b : TimedPart) → IsFormed p → GoesTo p a b
    → IsPastSetup p a.part → IsPastSetup p b.part

-- and of the children of a fork
unfoldable pub ChildrenArePastSetup : Type 0
ChildrenArePastSetup = (p : Program) (event : Event) (a b one two : TimedPart) → IsFormed p
    → IsOf p a.part → Forks p event a b one two → IsPastSetup p a.part
    → IsPastSetup p one.part × IsPastSetup p two.part

-- and then the return of that procedure isn't next
unfoldable pub PastSetupNothingSettles : Type 0
PastSetupNothingSettles = (p : Program) (a : Part) (frames : List Frame) → IsPastSetup p a
    → a.stand ≡ running frames → IsSettling p (next (runs frames)) → ⊥

-- where the children of a fork go on, they have gone on since
unfoldable pub ChildrenGoOn : Type 0
ChildrenGoOn = (p : Program) (before waits left right one two : TimedPart)
    → HaveGoneOn p before waits left right → GoesTo p left one → GoesTo p right two
    → HaveGoneOn p before waits one two

-- by their join their parent goes on
unfoldable pub JoinsGoOn : Type 0
JoinsGoOn = (p : Program) (event : Event) (before waits left right after : TimedPart)
    → HaveGoneOn p before waits left right → Joins p event waits left right after
    → GoesTo p before after

-- the task of the part has ended
abbrev pub IsOver : Part → Type 0
IsOver a = (frames : List Frame) × (a.stand ≡ running frames) × HasEnded a.task (runs frames)

-- what a parent takes back of children that have ended, and are the program's: they are its
-- children, no frame of them is left, and it can go on with what they have
pub record MayBeTakenBack (p : Program) (waits left right : TimedPart) : Type 0 where
  pub waiting : IsWaiting waits.part.stand
  pub left_child : IsChild waits.part left_turn left.part
  pub right_child : IsChild waits.part right_turn right.part
  pub left_over : left.part.stand ≡ running []
  pub right_over : right.part.stand ≡ running []
  pub goes_on : GoesOnIn p waits.part left.part right.part

unfoldable pub EndedChildrenMayBeTakenBack : Type 0
EndedChildrenMayBeTakenBack = (p : Program) (before waits left right : TimedPart)
    → HaveGoneOn p before waits left right → IsOf p left.part → IsOf p right.part
    → IsOver left.part → IsOver right.part → MayBeTakenBack p waits left right
