-- Goals as the definitions see them: lists in place of the code's vectors, and one item for each command.
-- Berdine, Calcagno, O'Hearn, "Symbolic Execution with Separation Logic" (2005).
use Rattle.std.specs.Prelude.{ℕ, List, [], ◌∷◌, Option, Some, map, reverse}
use Rattle.std.specs.List.{flat_map}
use Rattle.sf_base.specs.declared.ids.ResId.{ResId}
use Rattle.sf_base.specs.declared.ids.Var.{Var}
use Rattle.sf_base.specs.declared.place.Place.{Place}
use Rattle.sf_core.specs.declared.assertion.Test.{Test}
use Rattle.sf_core.specs.declared.command.Expr.{Expr}
use Rattle.sf_core.specs.Program.Syntax.{Command, Block, done, then, Conjuncts, none, also, Assertion}
use Rattle.sf_core.specs.Program.View.{command_of, block_of, assertion_of}
use Rattle.sf_sym.specs.declared.goal.Goal.{Goal as CodeGoal}
use Rattle.sf_sym.specs.declared.goal.Item.{Item as CodeItem}
use Rattle.sf_sym.specs.declared.goal.Item.TheVariants.{Run, Add, Take, Gave, Head, Again, Exit, Return, End}
use Rattle.sf_sym.specs.Pending.{Pending, pending_of}
use Rattle.sf_sym.specs.State.{State}
use Rattle.sf_sym.specs.declared.term.Term.{Term}

-- what there is to do: a command; conjuncts to assume; conjuncts to show and hand over, with the names
-- of their existentials;
-- variables to set and to remove; a loop; the ends of a loop's body, of a region, of the procedure, and
-- of all
pub data Item : Type 0 where
  run : Command → Item
  add : Place → Pending → Item
  take : Place → Pending → (names : List (List ℕ)) → Item
  gave : Place → (set : List (Var × Term)) → (removed : List Var) → Item
  head : Place → Test Expr → (invariant : Assertion) → Block → Item
  again : Place → (invariant : Assertion) → Item
  exit : Place → ResId → Item
  return : Place → (owed : List Assertion) → Item
  end : Place → Item

-- a state, and what is to do from there
pub record Goal : Type 0 where
  pub state : State
  pub todo : List Item

-- the goal with that state
abbrev pub at_state : Goal → State → Goal
at_state g s = record g { state = s }

-- the one goal that is left, with that state and those items
abbrev pub one_goal : State → List Item → Option (List Goal)
one_goal s todo = Some (record { state = s; todo = todo } ∷ [])

-- the item is there only where there are conjuncts
abbrev pub unless_none : Conjuncts Term → Item → List Item
unless_none none item = []
unless_none (also c cs) item = item ∷ []

-- to assume conjuncts, if there are any
abbrev pub adding : Place → Pending → List Item
adding p given = unless_none given.conjuncts (add p given)

-- to show them and hand over their part of the heap
abbrev pub taking : Place → Pending → (names : List (List ℕ)) → List Item
taking p want names = unless_none want.conjuncts (take p want names)

-- the commands of a block
abbrev pub to_run : Block → List Item
to_run done = []
to_run (then c cs) = run c ∷ to_run cs

-- an item of the code: commands are an item each
abbrev pub items_of : CodeItem → List Item
items_of (Run commands) = map (λ c. run (command_of c)) commands.now
items_of (Add p given) = add p (pending_of given) ∷ []
items_of (Take p want names) = take p (pending_of want) names.now ∷ []
items_of (Gave p set removed) = gave p set.items removed.items ∷ []
items_of (Head p test invariant body) = head p test.now (assertion_of invariant.now) (block_of body.now) ∷ []
items_of (Again p invariant) = again p (assertion_of invariant.now) ∷ []
items_of (Exit p r) = exit p r ∷ []
items_of (Return p owed) = return p (map (λ o. assertion_of o.assertion) owed.now) ∷ []
items_of (End p) = end p ∷ []

-- what there is to do, by a list of the code's items
abbrev pub todo_of : List CodeItem → List Item
todo_of items = flat_map items_of (reverse items)

-- a goal of the code, which has the next item last
abbrev pub goal_of : CodeGoal → Goal
goal_of g = record { state = g.state; todo = todo_of g.todo.items }
