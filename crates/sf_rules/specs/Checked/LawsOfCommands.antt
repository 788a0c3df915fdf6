-- What the rows of commands do to what a goal stands for: the goal that is left holds after the command's event.
-- Berdine, Calcagno, O'Hearn, "Symbolic Execution with Separation Logic" (2005), section 4: symbolic execution.
use Rattle.std.specs.Prelude.{◌≡◌, ℕ, ◌==◌, cond, Option, Some, None, List, ◌∷◌}
use Rattle.std.specs.List.{AllByRecursion}
use Rattle.sf_base.specs.declared.ids.FieldId.{FieldId}
use Rattle.sf_base.specs.declared.ids.Var.{Var}
use Rattle.sf_base.specs.declared.place.Place.{Place}
use Rattle.sf_base.specs.declared.value.Value.{Value}
use Rattle.sf_base.specs.declared.value.Value.TheVariants.{Loc as loc}
use Rattle.sf_base.specs.HeapStore.{Cell, Heap, put_field}
use Rattle.sf_core.specs.Assertions.Sat.{IsTrueOf}
use Rattle.sf_core.specs.declared.assertion.Test.{Test}
use Rattle.sf_core.specs.declared.command.Expr.{Expr}
use Rattle.sf_core.specs.declared.command.Occurrence.{Occurrence}
use Rattle.sf_core.specs.Machine.Step.{Finds}
use Rattle.sf_core.specs.Program.Syntax.{Block, Command, assign, look_up, mutate, new, dispose, if}
use Rattle.sf_rules.specs.Checked.Rows.Branches.{then_row, else_row}
use Rattle.sf_rules.specs.Checked.Rows.Commands.{assign_row, look_row, mutate_row, new_row, dispose_row}
use Rattle.sf_sym.specs.Goal.{Item, run, Goal}
use Rattle.sf_sym.specs.HoldsIn.{HoldsIn}
use Rattle.sf_sym.specs.Checked.Laws.{Follows, HoldsStill, SomeOf}
use Rattle.sf_sym.specs.Ready.{HasTestValues, HasValue, value_at, with_variable}
use Rattle.sf_sym.specs.Shape.{HasShape}
use Rattle.sf_sym.specs.State.{State}

-- the goal with that command to do first
abbrev pub before_command : State → Command → List Item → Goal
before_command s c rest = record { state = s; todo = run c ∷ rest }

-- the heap with that cell at the location, or none
abbrev pub heap_with : ℕ → Option Cell → Heap → Heap
heap_with location cell heap = λ other. cond (other == location) cell (heap other)

-- the goals that are left follow the goal, and wherever it holds, the event does what is said to one of them
pub record Executed (goal : Goal) (left : List Goal)
    (After : (w : ℕ → Value) (e : Var → Option Value) (free taken : Heap) → Goal → Type 0) : Type 0 where
  pub follow : AllByRecursion (Follows goal) left
  pub after : (w : ℕ → Value) (e : Var → Option Value) (free taken : Heap) → HoldsIn w goal e free taken
      → SomeOf (After w e free taken) left

-- the event finds the cell of that root in what is there, and what is said of it and its location follows
pub record FindsCell (e : Var → Option Value) (free : Heap) (root : Expr) (Then : ℕ → Cell → Type 0)
    : Type 0 where
  pub location : ℕ
  pub cell : Cell
  pub finds : Finds (value_at e) free root location cell
  pub follows : Then location cell

-- assign: the variable has the expression's value
unfoldable pub AssignFollowsEvent : Type 0
AssignFollowsEvent =
    (s : State) (rest : List Item) (left : List Goal) (p : Place) (x : Occurrence) (value : Expr)
    → HasShape (before_command s (assign p x value) rest)
    → assign_row s (assign p x value) rest ≡ Some left
    → Executed (before_command s (assign p x value) rest) left
    (λ w e free taken child. HasValue e value
    → HoldsStill w (before_command s (assign p x value) rest) (with_variable x.var (value_at e value) e) free
    taken child)

-- look: the cell is there, and the variable has the value of its field
unfoldable pub LookFollowsEvent : Type 0
LookFollowsEvent =
    (s : State) (rest : List Item) (left : List Goal) (p : Place) (x : Occurrence) (root : Expr)
    (field : FieldId) (atom : ℕ)
    → HasShape (before_command s (look_up p x root field) rest)
    → look_row atom s (look_up p x root field) rest ≡ Some left
    → Executed (before_command s (look_up p x root field) rest) left
    (λ w e free taken child. HasValue e root → FindsCell e free root
    (λ location cell. HoldsStill w (before_command s (look_up p x root field) rest)
    (with_variable x.var (cell field.0) e) free taken child))

-- mutate: the cell is there, and its field has the expression's value
unfoldable pub MutateFollowsEvent : Type 0
MutateFollowsEvent =
    (s : State) (rest : List Item) (left : List Goal) (p : Place) (root : Expr) (field : FieldId)
    (value : Expr) (atom : ℕ)
    → HasShape (before_command s (mutate p root field value) rest)
    → mutate_row atom s (mutate p root field value) rest ≡ Some left
    → Executed (before_command s (mutate p root field value) rest) left
    (λ w e free taken child. HasValue e root → HasValue e value → FindsCell e free root
    (λ location cell. HoldsStill w (before_command s (mutate p root field value) rest) e
    (heap_with location (Some (put_field cell field.0 (value_at e value))) free) taken child))

-- new: wherever there is no cell, one may be, with any values in its fields, and the variable has its location
unfoldable pub NewFollowsEvent : Type 0
NewFollowsEvent =
    (s : State) (rest : List Item) (left : List Goal) (p : Place) (x : Occurrence)
    → HasShape (before_command s (new p x) rest) → new_row s (new p x) rest ≡ Some left
    → Executed (before_command s (new p x) rest) left
    (λ w e free taken child. (location : ℕ) (cell : Cell) → free location ≡ None
    → HoldsStill w (before_command s (new p x) rest) (with_variable x.var (loc location) e)
    (heap_with location (Some cell) free) taken child)

-- dispose: the cell is there, and goes
unfoldable pub DisposeFollowsEvent : Type 0
DisposeFollowsEvent =
    (s : State) (rest : List Item) (left : List Goal) (p : Place) (root : Expr) (atom : ℕ)
    → HasShape (before_command s (dispose p root) rest)
    → dispose_row atom s (dispose p root) rest ≡ Some left
    → Executed (before_command s (dispose p root) rest) left
    (λ w e free taken child. HasValue e root → FindsCell e free root
    (λ location cell. HoldsStill w (before_command s (dispose p root) rest) e
    (heap_with location None free) taken child))

-- then: the test is true, and nothing changes
unfoldable pub ThenFollowsTest : Type 0
ThenFollowsTest =
    (s : State) (rest : List Item) (left : List Goal) (p : Place) (test : Test Expr) (this that : Block)
    → HasShape (before_command s (if p test this that) rest)
    → then_row s (run (if p test this that) ∷ rest) ≡ Some left
    → Executed (before_command s (if p test this that) rest) left
    (λ w e free taken child. HasTestValues e test
    → IsTrueOf (value_at e) test
    × HoldsStill w (before_command s (if p test this that) rest) e free taken child)

-- else: the test is false, and nothing changes
unfoldable pub ElseFollowsTest : Type 0
ElseFollowsTest =
    (s : State) (rest : List Item) (left : List Goal) (p : Place) (test : Test Expr) (this that : Block)
    → HasShape (before_command s (if p test this that) rest)
    → else_row s (run (if p test this that) ∷ rest) ≡ Some left
    → Executed (before_command s (if p test this that) rest) left
    (λ w e free taken child. HasTestValues e test
    → (IsTrueOf (value_at e) test → ⊥)
    × HoldsStill w (before_command s (if p test this that) rest) e free taken child)
