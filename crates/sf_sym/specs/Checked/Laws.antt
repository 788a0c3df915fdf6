-- What the tests of a state tell of each store and heap of which a goal with that state holds.
-- Berdine, Calcagno, O'Hearn, "Symbolic Execution with Separation Logic" (2005), section 4.
use Rattle.std.specs.Prelude.{◌≡◌, ◌≢◌, ◌↔◌, ◌⊎◌, ℕ, ◌≤◌, List, [], ◌∷◌, Option, Some, IsTrue, map}
use Rattle.std.specs.List.{AllByRecursion}
use Rattle.sf_base.specs.declared.ids.Var.{Var}
use Rattle.sf_base.specs.declared.value.Value.{Value}
use Rattle.sf_base.specs.declared.value.Value.TheVariants.{Loc as loc}
use Rattle.sf_base.specs.HeapStore.{Cell, Heap, Splits}
use Rattle.sf_sym.specs.Below.{AllPaired, AreBelow, IsBelow, SameBelow}
use Rattle.sf_sym.specs.declared.term.Term.{Term}
use Rattle.sf_sym.specs.Equalities.{assumed_apart, assumed_equal, item_with}
use Rattle.sf_sym.specs.Formed.{AreFormed}
use Rattle.sf_sym.specs.Goal.{Goal, Item}
use Rattle.sf_sym.specs.Holds.{term_value, HoldsAt, Holds}
use Rattle.sf_sym.specs.HoldsIn.{HoldsIn}
use Rattle.sf_sym.specs.Shape.{HasShape}
use Rattle.sf_sym.specs.Tests.{differs, allocated, is_absurd}

-- the value is the location of a cell of the heap
pub record IsLocationIn (heap : Heap) (v : Value) : Type 0 where
  pub location : ℕ
  pub here : Cell
  pub is : v ≡ loc location
  pub there : heap location ≡ Some here

-- P follows, for values of the symbols and a heap, wherever a goal holds
abbrev pub WhereHolds : ((ℕ → Value) → Goal → Heap → Type 0) → Type 0
WhereHolds P =
    (w : ℕ → Value) (goal : Goal) (e : Var → Option Value) (heap : Heap) → HoldsAt w goal e heap
    → P w goal heap

-- terms that differ have different values
unfoldable pub DifferingTermsDiffer : Type 0
DifferingTermsDiffer =
    WhereHolds (λ w goal heap. (t u : Term) → IsTrue (differs goal.state t u)
    → term_value w t ≢ term_value w u)

-- an allocated term is a location of the heap
unfoldable pub AllocatedTermsAreLocations : Type 0
AllocatedTermsAreLocations =
    WhereHolds (λ w goal heap. (t : Term) (except : Option ℕ) → IsTrue (allocated goal.state t except)
    → IsLocationIn heap (term_value w t))

-- the state isn't absurd
unfoldable pub HeldStatesAreNotAbsurd : Type 0
HeldStatesAreNotAbsurd = WhereHolds (λ w goal heap. IsTrue (is_absurd goal.state) → ⊥)

-- a goal holds of a heap exactly where it holds of two parts of it: what is there, and what was handed over
unfoldable pub HoldsOnTwoHeaps : Type 0
HoldsOnTwoHeaps =
    (goal : Goal) (e : Var → Option Value) (heap : Heap) → Holds goal e heap
    ↔ ((w : ℕ → Value) × (free : Heap) × (taken : Heap) × Splits heap free taken
    × HoldsIn w goal e free taken)

-- what a goal stands for rests on no symbol's value but those below its next one
unfoldable pub OtherSymbolsAreFree : Type 0
OtherSymbolsAreFree =
    (v w : ℕ → Value) (goal : Goal) (e : Var → Option Value) (free taken : Heap) → AreBelow goal
    → SameBelow goal.state.next_sym v w → HoldsIn w goal e free taken → HoldsIn v goal e free taken

-- two terms of one value may be assumed to be the same
unfoldable pub EqualTermsMayBeAssumed : Type 0
EqualTermsMayBeAssumed =
    (w : ℕ → Value) (t u : Term) (goal : Goal) (e : Var → Option Value) (free taken : Heap)
    → term_value w t ≡ term_value w u → HoldsIn w goal e free taken
    → HoldsIn w (assumed_equal t u goal) e free taken

-- two terms of different values may be assumed to differ
unfoldable pub DifferingTermsMayBeAssumed : Type 0
DifferingTermsMayBeAssumed =
    (w : ℕ → Value) (t u : Term) (goal : Goal) (e : Var → Option Value) (free taken : Heap)
    → term_value w t ≢ term_value w u → HoldsIn w goal e free taken
    → HoldsIn w (assumed_apart t u goal) e free taken

-- a goal still speaks of symbols below its next one only, where two of those are assumed to be the same or to differ
unfoldable pub AssumedTermsAreBelow : Type 0
AssumedTermsAreBelow =
    (t u : Term) (goal : Goal) → AreBelow goal → IsBelow goal.state.next_sym t
    → IsBelow goal.state.next_sym u → AreBelow (assumed_equal t u goal) × AreBelow (assumed_apart t u goal)

-- Forms of laws
-- one of the goals has the property
abbrev pub SomeOf : (Goal → Type 0) → List Goal → Type 0
SomeOf P [] = ⊥
SomeOf P (g ∷ gs) = P g ⊎ SomeOf P gs

-- a goal that a row leaves of another speaks of symbols below its next one only, of which there are no fewer, goes by
-- the same links, and has only formed conjuncts where the other has
pub record Follows (goal child : Goal) : Type 0 where
  pub below : AreBelow child
  pub symbols : goal.state.next_sym ≤ child.state.next_sym
  pub links : child.state.links ≡ goal.state.links
  pub formed : AreFormed goal → AreFormed child

-- it holds on these heaps with the values that the other goal's symbols have, and some values of its own ones
pub record HoldsStill (w : ℕ → Value) (goal : Goal) (e : Var → Option Value) (free taken : Heap)
    (child : Goal) : Type 0 where
  pub values : ℕ → Value
  pub same : SameBelow goal.state.next_sym values w
  pub holds : HoldsIn values child e free taken

-- what is still to do is the same, with other terms in place of those that occur, which have the same values
pub record Restated (values : ℕ → Value) (items others : List Item) : Type 0 where
  pub to : Term → Term
  pub same : (t : Term) → term_value values (to t) ≡ term_value values t
  pub is : others ≡ map (item_with to) items

-- the goal holds still, and all that is still to do is the same with terms of the same values
pub record HoldsAsBefore (w : ℕ → Value) (goal : Goal) (e : Var → Option Value) (free taken : Heap)
    (child : Goal) : Type 0 where
  pub still : HoldsStill w goal e free taken child
  pub todo : Restated still.values goal.todo child.todo

-- the goals that are left follow the goal, and wherever it holds, what is said is so of one of them
pub record KeptWith (goal : Goal) (left : List Goal)
    (So : (w : ℕ → Value) → Goal → (e : Var → Option Value) (free taken : Heap) → Goal → Type 0) : Type 0 where
  pub follow : AllByRecursion (Follows goal) left
  pub hold : (w : ℕ → Value) (e : Var → Option Value) (free taken : Heap) → HoldsIn w goal e free taken
      → SomeOf (So w goal e free taken) left

-- one of them holds still
abbrev pub Kept : Goal → (left : List Goal) → Type 0
Kept goal left = KeptWith goal left HoldsStill

-- a row keeps what goals stand for, whatever is to do: what is to be assumed, to be shown and to be set, too
abbrev pub KeepsGoals : (Goal → Option (List Goal)) → Type 0
KeepsGoals row =
    (goal : Goal) (left : List Goal) → HasShape goal → row goal ≡ Some left → KeptWith goal left HoldsAsBefore

-- the values that variables are to get by their terms
abbrev pub set_values : (ℕ → Value) → List (Var × Term) → List (Var × Value)
set_values w [] = []
set_values w (x ∷ xs) = (x.0, term_value w x.1) ∷ set_values w xs

-- they are the same by other terms of the same values
unfoldable pub RestatedTermsAreSet : Type 0
RestatedTermsAreSet =
    (below : ℕ) (earlier later : ℕ → Value) (to : Term → Term) (set : List (Var × Term))
    → ((t : Term) → IsBelow below t → term_value later (to t) ≡ term_value earlier t)
    → AllPaired (IsBelow below) set
    → set_values later (map (λ (x : Var × Term). (x.0, to x.1)) set) ≡ set_values earlier set
