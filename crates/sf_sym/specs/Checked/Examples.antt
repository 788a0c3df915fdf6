-- Examples of small goals: what the definitions say of each.
-- The states are in the manner of Berdine, Calcagno, O'Hearn, "Symbolic Execution with Separation Logic"
-- (2005).
use Rattle.std.specs.Prelude.{◌≡◌, ◌↔◌, ℕ, List, [], ◌∷◌, Option, Some, None}
use Rattle.sf_base.specs.declared.ids.Var.{Var}
use Rattle.sf_base.specs.declared.ids.Var.TheVariants.{Own}
use Rattle.sf_base.specs.declared.value.Value.{Value}
use Rattle.sf_base.specs.declared.value.Value.TheVariants.{Nil as nil, Loc as loc}
use Rattle.sf_core.specs.declared.assertion.Operand.TheVariants.{Known, Exists}
use Rattle.sf_base.specs.HeapStore.{Cell, Heap}
use Rattle.sf_core.specs.Checked.Assertions.Examples.{place, tl, l, r, one_cell, two_cells}
use Rattle.sf_core.specs.Program.Syntax.{Conjuncts, none, also, points, segment}
use Rattle.sf_sym.specs.declared.atom.Atom.TheVariants.{Points}
use Rattle.sf_sym.specs.declared.atom.Numbered.{Numbered}
use Rattle.sf_sym.specs.State.{State}
use Rattle.sf_sym.specs.declared.term.Term.{Term}
use Rattle.sf_sym.specs.declared.term.Term.TheVariants.{Nil, Sym}
use Rattle.sf_sym.specs.Goal.{add, end, Goal}
use Rattle.sf_sym.specs.Holds.{Holds}

-- x = s0, s0 != nil, and these atoms
abbrev pub state_with : List Numbered → State
state_with atoms = record {
  links = record { tl = Some tl; pv = None; l = Some l; r = Some r };
  vars = (Own 0, Sym 0) ∷ [];
  apart = (Sym 0, Nil) ∷ [];
  atoms = atoms;
  taken = [];
  next_sym = 2;
  next_atom = 2;
}

-- these conjuncts are to be assumed, with the existential of number 0 having that term, if any; then all
-- is done
abbrev pub goal_with : List Numbered → Conjuncts Term → Option Term → Goal
goal_with atoms conjuncts binding = record {
  state = state_with atoms;
  todo = add place (record { conjuncts = conjuncts; bindings = binding ∷ [] }) ∷ end place ∷ [];
}

-- 1: s0|->tl:s1
abbrev pub one_atom : List Numbered
one_atom = record { number = 1; atom = Points (Sym 0) ((tl, Sym 1) ∷ []) } ∷ []

-- ls(s1,nil)
abbrev pub list_after : Conjuncts Term
list_after = also (segment place tl (Known (Sym 1)) (Known Nil)) none

-- s0|->tl:_u
abbrev pub unknown_tail : Conjuncts Term
unknown_tail = also (points place (Known (Sym 0)) ((tl, Exists 0) ∷ [])) none

-- every variable has that value
abbrev pub all_are : Value → Var → Option Value
all_are v x = Some v

-- a cell and a list after it, still to be assumed, are two cells
unfoldable pub TwoCellsAreTheGoals : Type 0
TwoCellsAreTheGoals = Holds (goal_with one_atom list_after None) (all_are (loc 1)) two_cells

-- a goal in which x differs from nil doesn't hold where x is nil
unfoldable pub NilIsNotTheGoals : Type 0
NilIsNotTheGoals = (heap : Heap) → Holds (goal_with one_atom list_after None) (all_are nil) heap → ⊥

-- an existential that has a term has its value
unfoldable pub BoundExistentialIsItsTerm : Type 0
BoundExistentialIsItsTerm =
    (location : ℕ) (cell : Cell) → Holds (goal_with [] unknown_tail (Some Nil)) (all_are (loc location))
    (one_cell location cell) ↔ (cell 0 ≡ nil)

-- one that has none has any
unfoldable pub UnboundExistentialIsAnything : Type 0
UnboundExistentialIsAnything =
    (location : ℕ) (cell : Cell) → Holds (goal_with [] unknown_tail None) (all_are (loc location))
    (one_cell location cell)
