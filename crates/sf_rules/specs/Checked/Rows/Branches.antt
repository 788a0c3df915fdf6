-- The rows of choices, as commands, among what is assumed and among what is to be shown: then, else.
-- Berdine, Calcagno, O'Hearn, "Smallfoot" (2005): a choice waits until its test is decided.
use Rattle.std.specs.Prelude.{Bool, true, false, cond, Option, Some, None, List, ◌∷◌, ◌++◌}
use Rattle.std.specs.Option.{option_and_then}
use Rattle.sf_core.specs.Program.Syntax.{choose, Conjuncts, also, if}
use Rattle.sf_sym.specs.declared.term.Term.{Term}
use Rattle.sf_sym.specs.Goal.{Item, run, add, take, Goal, adding, one_goal, taking, to_run}
use Rattle.sf_sym.specs.Pending.{Pending, with_branch}
use Rattle.sf_sym.specs.State.{State, term}
use Rattle.sf_sym.specs.Decided.{command_test, is_decided, test_of_terms}

-- the first conjunct is a choice whose test is decided so: the conjuncts with its branch for that
abbrev pub chosen : (so : Bool) → State → Pending → Conjuncts Term → Option Pending
chosen so s p (also (choose place t this that) rest) =
    option_and_then (λ test. cond (is_decided so s test) (Some (with_branch p (cond so this that) rest)) None)
    (test_of_terms p.bindings t)
chosen so s p _ = None

-- a choice goes where its test is decided so, in each of its three places: its branch for that takes its place
abbrev pub branch_row : (so : Bool) → State → List Item → Option (List Goal)
branch_row so s (run (if p t c d) ∷ rest) =
    cond (is_decided so s (command_test (term s.vars) t)) (one_goal s (to_run (cond so c d) ++ rest)) None
branch_row so s (add p given ∷ rest) =
    option_and_then (λ left. one_goal s (adding p left ++ rest)) (chosen so s given given.conjuncts)
branch_row so s (take p want names ∷ rest) =
    option_and_then (λ left. one_goal s (taking p left names ++ rest)) (chosen so s want want.conjuncts)
branch_row so s _ = None

-- then: the first branch, where the test is decided true
abbrev pub then_row : State → List Item → Option (List Goal)
then_row s todo = branch_row true s todo

-- else: the second branch, where it is decided false
abbrev pub else_row : State → List Item → Option (List Goal)
else_row s todo = branch_row false s todo
