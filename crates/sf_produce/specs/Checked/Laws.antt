-- What is assumed is known from then on: the row of what is assumed keeps what goals stand for.
-- Berdine, Calcagno, O'Hearn, "Symbolic Execution with Separation Logic" (2005), section 4.
use Rattle.std.specs.Prelude.{◌≡◌, ℕ, Option, Some, List, ◌∷◌, ◌++◌}
use Rattle.sf_base.specs.declared.ids.Var.{Var}
use Rattle.sf_base.specs.declared.place.Place.{Place}
use Rattle.sf_base.specs.declared.value.Value.{Value}
use Rattle.sf_base.specs.HeapStore.{Heap}
use Rattle.sf_produce.specs.Add.{add_row}
use Rattle.sf_sym.specs.Goal.{Item, add, Goal, adding}
use Rattle.sf_sym.specs.Checked.Laws.{HoldsStill, KeptWith, Restated}
use Rattle.sf_sym.specs.Pending.{Pending}
use Rattle.sf_sym.specs.Shape.{HasShape}
use Rattle.sf_sym.specs.State.{State}

-- the goal with these conjuncts to assume first
abbrev pub assuming : State → Place → Pending → List Item → Goal
assuming s p given rest = record { state = s; todo = add p given ∷ rest }

-- the goal holds still, and what is to do after the conjuncts that are left is the same with terms of the same values
pub record HoldsAssumed (p : Place) (rest : List Item) (w : ℕ → Value) (goal : Goal) (e : Var → Option Value)
    (free taken : Heap) (child : Goal) : Type 0 where
  pub still : HoldsStill w goal e free taken child
  pub left : Pending
  pub others : List Item
  pub todo : child.todo ≡ adding p left ++ others
  pub restated : Restated still.values rest others

-- add: wherever the goal holds, it holds with its first conjunct assumed
unfoldable pub AddKeepsGoals : Type 0
AddKeepsGoals =
    (s : State) (p : Place) (given : Pending) (rest : List Item) (left : List Goal)
    → HasShape (assuming s p given rest) → add_row s p given rest ≡ Some left
    → KeptWith (assuming s p given rest) left (HoldsAssumed p rest)
