-- HoldsIn: a goal on two heaps, that of what is there and that of what was handed over.
-- Berdine, Calcagno, O'Hearn, "Symbolic Execution with Separation Logic" (2005), section 5: what is left, and what was
-- subtracted.
use Rattle.std.specs.Prelude.{ℕ, Option}
use Rattle.std.specs.List.{AllByRecursion}
use Rattle.sf_base.specs.declared.ids.Var.{Var}
use Rattle.sf_base.specs.declared.value.Value.{Value}
use Rattle.sf_base.specs.HeapStore.{Heap, Apart, ◌⋆◌}
use Rattle.sf_sym.specs.Goal.{Goal}
use Rattle.sf_sym.specs.Holds.{Agrees, Differ, AtomsHold, AddsHold}

-- a goal holds of these values of the variables and of two disjoint heaps, with these values of the symbols: the atoms
-- and what is still to be assumed hold on the one, what was handed over holds on the other
pub record HoldsIn (w : ℕ → Value) (goal : Goal) (e : Var → Option Value) (free taken : Heap) : Type 0 where
  pub vars : AllByRecursion (Agrees w e) goal.state.vars
  pub apart : AllByRecursion (Differ w) goal.state.apart
  pub disjoint : (location : ℕ) → Apart (free location) (taken location)
  pub there : (AtomsHold w goal.state.links goal.state.atoms ⋆ AddsHold w goal.todo) free
  pub gone : AtomsHold w goal.state.links goal.state.taken taken
