-- Rows by what is in front: each applies to one kind of thing to do, and has the rest at hand.
-- Ordinary: a list's first element, by its kind.
use Rattle.std.specs.Prelude.{ℕ, Option, None, List, ◌∷◌}
use Rattle.sf_base.specs.declared.ids.ResId.{ResId}
use Rattle.sf_base.specs.declared.ids.Var.{Var}
use Rattle.sf_base.specs.declared.place.Place.{Place}
use Rattle.sf_core.specs.declared.assertion.Test.{Test}
use Rattle.sf_core.specs.declared.command.Expr.{Expr}
use Rattle.sf_core.specs.Program.Syntax.{Assertion, Block, Command}
use Rattle.sf_sym.specs.declared.term.Term.{Term}
use Rattle.sf_sym.specs.Goal.{Item, run, add, take, gave, head, again, exit, return, end, Goal}
use Rattle.sf_sym.specs.Pending.{Pending}

-- a command
abbrev pub at_command : (Command → List Item → Option (List Goal)) → List Item → Option (List Goal)
at_command row (run c ∷ rest) = row c rest
at_command row _ = None

-- conjuncts to assume
abbrev pub at_add : (Place → Pending → List Item → Option (List Goal)) → List Item → Option (List Goal)
at_add row (add p given ∷ rest) = row p given rest
at_add row _ = None

-- conjuncts to show
abbrev pub at_take : (Place → Pending → (names : List (List ℕ)) → List Item → Option (List Goal)) → List Item
    → Option (List Goal)
at_take row (take p want names ∷ rest) = row p want names rest
at_take row _ = None

-- what was taken is gone for good
abbrev pub at_gave : (Place → (set : List (Var × Term)) → (removed : List Var) → List Item → Option (List Goal))
    → List Item → Option (List Goal)
at_gave row (gave p set removed ∷ rest) = row p set removed rest
at_gave row _ = None

-- a loop whose invariant was handed over
abbrev pub at_head : (Place → Test Expr → (invariant : Assertion) → Block → List Item → Option (List Goal)) → List Item
    → Option (List Goal)
at_head row (head p t invariant body ∷ rest) = row p t invariant body rest
at_head row _ = None

-- the end of a loop's body
abbrev pub at_again : (Place → (invariant : Assertion) → List Item → Option (List Goal)) → List Item
    → Option (List Goal)
at_again row (again p invariant ∷ rest) = row p invariant rest
at_again row _ = None

-- the end of a region
abbrev pub at_exit : (Place → ResId → List Item → Option (List Goal)) → List Item → Option (List Goal)
at_exit row (exit p r ∷ rest) = row p r rest
at_exit row _ = None

-- the end of the procedure
abbrev pub at_return : (Place → (owed : List Assertion) → List Item → Option (List Goal)) → List Item
    → Option (List Goal)
at_return row (return p owed ∷ rest) = row p owed rest
at_return row _ = None

-- the end of all
abbrev pub at_end : (Place → List Item → Option (List Goal)) → List Item → Option (List Goal)
at_end row (end p ∷ rest) = row p rest
at_end row _ = None
