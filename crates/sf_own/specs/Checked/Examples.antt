-- Worked examples: a child that has ended with just what it owes is safe; one that has a cell too
-- much or still holds a resource isn't, nor is one that is at a cell which it doesn't have.
-- Small programs and small numbers, as one would do by hand.
use Rattle.std.specs.Prelude.{[], nat_eq}
use Rattle.sf_base.specs.declared.value.Value.TheVariants.{Nil as nil, Loc as loc}
use Rattle.sf_core.specs.Checked.Machine.Examples.{guarded, mutates, one_in}
use Rattle.sf_core.specs.Checked.Machine.WholeExamples.{cell_at}
use Rattle.sf_core.specs.Machine.Start.{entry_slot}
use Rattle.sf_core.specs.Machine.Whole.{running, Part}
use Rattle.sf_core.specs.Program.Syntax.{Program}
use Rattle.sf_own.specs.Checked.Safe.{IsSafe}
use Rattle.sf_part.specs.Checked.Examples.{doing, left_part, no_slots}
use Rattle.sf_safe.specs.Checked.Contract.{Known}

-- what a call of `skip` owes, which has no variables, and no cells before it and after it
abbrev pub skips : Known
skips = record {
  fixed = record {
    procedure = record { 0 = 0 };
    slots = entry_slot;
    room = record { event = 5; first = 0; count = 0 };
  };
  values = λ i. nil;
}

-- the part of a child that has ended, with nothing
abbrev pub over : Part
over = left_part (running []) no_slots []

-- it is safe
unfoldable pub EndedChildrenAreSafe : Type 0
EndedChildrenAreSafe = IsSafe guarded skips over

-- with a cell it isn't: the cell would be leaked
unfoldable pub LeftCellsAreNotSafe : Type 0
LeftCellsAreNotSafe = IsSafe guarded skips (record over { heap = cell_at 1 }) → ⊥

-- nor is it where the child still holds the resource
unfoldable pub HeldResourcesAreNotSafe : Type 0
HeldResourcesAreNotSafe = IsSafe guarded skips (record over { holds = λ r. nat_eq r.0 0 }) → ⊥

-- x->hd = 7; where x is 1 and there is no cell isn't safe, whatever the program and what is owed
unfoldable pub AbsentCellsAreNotSafe : Type 0
AbsentCellsAreNotSafe = (p : Program) (owed : Known)
    → IsSafe p owed (doing mutates (one_in (loc 1)) []) → ⊥
