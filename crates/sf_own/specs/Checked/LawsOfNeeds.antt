-- The laws of what a safe part has: the cells that its next event needs, what it has to leave at an
-- exit, to lend at a fork or to hand out, and at its end just what it owes.
-- O'Hearn (2007), Brookes (2007): no memory faults, and invariants that hold where they are due.
use Rattle.std.specs.Prelude.{◌≡◌, ◌≢◌, ◌<◌, List, [], length}
use Rattle.sf_base.specs.declared.ids.ResId.{ResId}
use Rattle.sf_base.specs.declared.limits.TheConstants.{TURNS}
use Rattle.sf_base.specs.declared.value.Value.{Value}
use Rattle.sf_core.specs.Machine.Bad.{IsAtNoCell}
use Rattle.sf_core.specs.Machine.Config.{Frame, runs}
use Rattle.sf_core.specs.Machine.Enabled.{HasEnded}
use Rattle.sf_core.specs.Machine.Next.{next}
use Rattle.sf_core.specs.Machine.Step.{Event}
use Rattle.sf_core.specs.Machine.Whole.{Part, numbers, running}
use Rattle.sf_core.specs.Program.Syntax.{Program}
use Rattle.sf_own.specs.Checked.Accepted.{IsAccepted}
use Rattle.sf_own.specs.Checked.Safe.{IsSafe, own_of}
use Rattle.sf_part.specs.Answers.{Answers}
use Rattle.sf_part.specs.declared.local.Local.TheVariants.{Absent}
use Rattle.sf_part.specs.Keeps.{Keeps}
use Rattle.sf_part.specs.Leaving.{HasNoContent, HasNoContents, IsAtExit, IsAtInit}
use Rattle.sf_part.specs.Lent.{Lends}
use Rattle.sf_part.specs.Of.{IsOf}
use Rattle.sf_part.specs.Steps.{IsFork, common_of}
use Rattle.sf_part.specs.Timed.{TimedPart}
use Rattle.sf_safe.specs.Checked.Contract.{Ended, Known, Returned}

-- where the next event of a task that runs is a look-up, a mutation or a dispose, the part has the
-- cell
unfoldable pub CellsAreThere : Type 0
CellsAreThere = (p : Program) (owed : Known) (a : Part) (frames : List Frame) → IsSafe p owed a
    → a.stand ≡ running frames → IsAtNoCell (common_of a) (next (runs frames)) → ⊥

-- so a task is never told that a cell is absent
unfoldable pub AbsentNeverComes : Type 0
AbsentNeverComes = (p : Program) (owed : Known) (a : TimedPart) (v : Value)
    → IsSafe p owed a.part → Answers p a (Absent v) → ⊥

-- at an exit the part has what is just the resource's
unfoldable pub ContentsAreThere : Type 0
ContentsAreThere = (p : Program) (owed : Known) (a : Part) (r : ResId) → IsSafe p owed a
    → IsAtExit a r → HasNoContent p a r → ⊥

-- where the procedure that sets the resources up returns, the part has what is just theirs
unfoldable pub AllContentsAreThere : Type 0
AllContentsAreThere = (p : Program) → IsAccepted p → (owed : Known) (a : Part) → IsSafe p owed a
    → IsAtInit p a → HasNoContents p a → ⊥

-- what a part may lend at a fork: just what is each child's
pub record MayLend (p : Program) (a : TimedPart) : Type 0 where
  pub event : Event
  pub after : TimedPart
  pub one : TimedPart
  pub two : TimedPart
  pub lends : Lends p event a after one two

-- at a fork, with a unit for it and a turn for its children, the part has just what is each
-- child's
unfoldable pub SharesAreThere : Type 0
SharesAreThere = (p : Program) → IsAccepted p → (owed : Known) (a : TimedPart)
    (frames : List Frame) → Keeps a → IsOf p a.part → IsSafe p owed a.part
    → a.part.stand ≡ running frames → IsFork (next (runs frames)) → length a.part.task < TURNS
    → numbers a.part.supply ≢ [] → MayLend p a

-- a child that has ended has just what it owes
unfoldable pub EndedPartsAreReturned : Type 0
EndedPartsAreReturned = (p : Program) (owed : Known) (a : Part) → IsSafe p owed a
    → a.stand ≡ running [] → Returned p owed (own_of a)

-- so has the entry, which isn't returned from: where it has ended its frame is still there
unfoldable pub EndedEntriesMeetTheirs : Type 0
EndedEntriesMeetTheirs = (p : Program) (owed : Known) (a : Part) (frames : List Frame)
    → IsSafe p owed a → a.stand ≡ running frames → a.task ≡ [] → frames ≢ []
    → HasEnded a.task (runs frames) → Ended p owed (own_of a)
