-- What the rows of conjuncts do to what a goal stands for: what is assumed is known then, and what is to be shown is
-- handed over.
-- Berdine, Calcagno, O'Hearn, "Symbolic Execution with Separation Logic" (2005), sections 4 and 5.
use Rattle.std.specs.Prelude.{◌≡◌, ℕ, Bool, Option, Some, List, [], ◌∷◌, ◌++◌}
use Rattle.sf_base.specs.declared.ids.Var.{Var}
use Rattle.sf_base.specs.declared.place.Place.{Place}
use Rattle.sf_base.specs.declared.value.Value.{Value}
use Rattle.sf_base.specs.HeapStore.{Heap}
use Rattle.sf_consume.specs.Checked.Laws.{HandsOver, Subtracts}
use Rattle.sf_consume.specs.Subtract.{Want}
use Rattle.sf_consume.specs.Wants.{still_wanted, wanting}
use Rattle.sf_produce.specs.Checked.Laws.{HoldsAssumed, assuming}
use Rattle.sf_rules.specs.Checked.Rows.Add.{assume_row}
use Rattle.sf_rules.specs.Checked.Rows.Branches.{branch_row}
use Rattle.sf_rules.specs.Checked.Rows.Take.{subtract_row}
use Rattle.sf_sym.specs.declared.tag.Tag.{Tag}
use Rattle.sf_sym.specs.Goal.{Item, add, take, Goal, taking}
use Rattle.sf_sym.specs.Checked.Laws.{Follows, KeptWith}
use Rattle.sf_sym.specs.HoldsIn.{HoldsIn}
use Rattle.sf_sym.specs.Pending.{Pending}
use Rattle.sf_sym.specs.Shape.{HasShape}
use Rattle.sf_sym.specs.State.{State}

-- add: wherever the goal holds, it holds with its first conjunct assumed
unfoldable pub AssumeKeepsGoals : Type 0
AssumeKeepsGoals =
    (s : State) (p : Place) (given : Pending) (rest : List Item) (left : List Goal)
    → HasShape (assuming s p given rest) → assume_row s p given rest ≡ Some left
    → KeptWith (assuming s p given rest) left (HoldsAssumed p rest)

-- then, else among what is assumed: wherever the goal holds, it holds with the branch of the choice in its place
unfoldable pub AssumedBranchKeepsGoals : Type 0
AssumedBranchKeepsGoals =
    (so : Bool) (s : State) (p : Place) (given : Pending) (rest : List Item) (left : List Goal)
    → HasShape (assuming s p given rest) → branch_row so s (add p given ∷ rest) ≡ Some left
    → KeptWith (assuming s p given rest) left (HoldsAssumed p rest)

-- the goal with these conjuncts to show first
abbrev pub showing : State → Place → Pending → (names : List (List ℕ)) → List Item → Goal
showing s p want names rest = record { state = s; todo = take p want names ∷ rest }

-- the goal in which what a subtraction leaves is to be shown, and then the rest is to be done
abbrev pub still_showing : Want → Place → (names : List (List ℕ)) → List Item → Goal
still_showing after p names rest =
    record { state = after.state; todo = taking p (still_wanted after) names ++ rest }

-- what is handed over is what the subtraction takes off what is wanted, and the goal that is left holds on the rest and
-- on all that was handed over
pub record HandsOn (w : ℕ → Value) (want after : Want) (child : Goal) (e : Var → Option Value) (free taken : Heap)
    : Type 0 where
  pub hands : HandsOver w want after e free taken
  pub holds : HoldsIn hands.values child e hands.rest hands.gone

-- one goal is left, in which the rest of a subtraction is to be shown; wherever the goal holds, it holds once a part
-- was handed over
pub record LeftToShow (s : State) (p : Place) (want : Pending) (names : List (List ℕ)) (rest : List Item)
    (left : List Goal) : Type 0 where
  pub after : Want
  pub is : left ≡ still_showing after p names rest ∷ []
  pub subtracts : Subtracts (wanting s want) after
  pub follow : Follows (showing s p want names rest) (still_showing after p names rest)
  pub hands : (w : ℕ → Value) (e : Var → Option Value) (free taken : Heap)
      → HoldsIn w (showing s p want names rest) e free taken
      → HandsOn w (wanting s want) after (still_showing after p names rest) e free taken

-- a row of subtraction: what is handed over is what it takes off what is wanted
unfoldable pub SubtractionLeavesRest : Type 0
SubtractionLeavesRest =
    (tag : Tag) (s : State) (p : Place) (want : Pending) (names : List (List ℕ)) (rest : List Item)
    (left : List Goal)
    → HasShape (showing s p want names rest)
    → subtract_row tag s p want names rest ≡ Some left → LeftToShow s p want names rest left

-- then, else among what is to be shown: the branch of the choice is wanted in its place
unfoldable pub ShownBranchLeavesRest : Type 0
ShownBranchLeavesRest =
    (so : Bool) (s : State) (p : Place) (want : Pending) (names : List (List ℕ)) (rest : List Item)
    (left : List Goal)
    → HasShape (showing s p want names rest)
    → branch_row so s (take p want names ∷ rest) ≡ Some left → LeftToShow s p want names rest left
