-- Examples of the procedure that sets the resources up, beside one that holds a resource: with what
-- the proof of each begins, and what is due at its end.
-- The goals are in the manner of Berdine, Calcagno, O'Hearn, "Smallfoot" (2005).
use Rattle.std.specs.Prelude.{◌≡◌, ℕ, List, [], ◌∷◌, codes}
use Rattle.sf_base.specs.declared.ids.ResId.{ResId}
use Rattle.sf_base.specs.declared.ids.Var.{Var}
use Rattle.sf_base.specs.declared.ids.Var.TheVariants.{Own, Shared}
use Rattle.sf_core.specs.Checked.Assertions.Examples.{place}
use Rattle.sf_core.specs.Checked.Machine.Examples.{emp, lock, one_cell_at, procedure}
use Rattle.sf_core.specs.declared.command.Expr.{Expr}
use Rattle.sf_core.specs.declared.command.Expr.TheVariants.{Var as Variable, Nil as ENil}
use Rattle.sf_core.specs.Program.Syntax.{Assertion, Procedure, Resource, assign, new, done, then}
use Rattle.sf_sym.specs.declared.tag.Tag.TheVariants as t
use Rattle.sf_sym.specs.declared.term.Term.{Term}
use Rattle.sf_sym.specs.declared.term.Term.TheVariants.{Nil, Sym}
use Rattle.sf_sym.specs.Checked.Examples.{state_with}
use Rattle.sf_sym.specs.Goal.{run, return, end}
use Rattle.sf_sym.specs.State.{State, first_state}
use Rattle.sf_rules.specs.Checked.Examples.{goal_at}
use Rattle.sf_rules.specs.Checked.ExamplesOfBodies.{assumes, cell_at, guarded, nil_at, same, shows, v, v_value}
use Rattle.sf_rules.specs.First.{first_goal, links_of}
use Rattle.sf_rules.specs.Rules.{Leaves}
use Rattle.sf_rules.specs.Setting.{Setting}

-- a second resource q (w) [w == nil]
abbrev pub other_lock : ResId
other_lock = record { 0 = 1 }

abbrev pub w : Var
w = Shared other_lock 0

abbrev pub w_value : Expr
w_value = Variable (record { var = w; place = place })

abbrev pub guarded_too : Resource
guarded_too = record { name = codes "q"; variables = codes "w" ∷ []; invariant = nil_at w_value }

-- init() { local i; v = new(); w = nil; }
abbrev pub sets_up_both : Procedure
sets_up_both = record (procedure (codes "i" ∷ []) 0 0 emp
    (then (new place (record { var = v; place = place }))
    (then (assign place (record { var = w; place = place }) ENil)
    done))) { name = codes "init"; locals = 1 }

-- f(x) [v|->] { } [v|->]
abbrev pub holds_lock : Procedure
holds_lock = procedure (codes "x" ∷ []) 0 1 (one_cell_at v_value) done

-- a setting of these: the first one holds both resources, the second one holds the first resource
abbrev pub two_locks : Setting
two_locks = record {
  program = record {
    fields = [];
    resources = guarded ∷ guarded_too ∷ [];
    procedures = sets_up_both ∷ holds_lock ∷ [];
  };
  sets = record {
    takes = [] ∷ [] ∷ [];
    holds = (lock ∷ other_lock ∷ []) ∷ (lock ∷ []) ∷ [];
    free = (v ∷ w ∷ []) ∷ (v ∷ []) ∷ [];
  };
  ordered = λ a. a;
}

-- what its return owes: the invariants of both resources
abbrev pub both_invariants : List Assertion
both_invariants = one_cell_at v_value ∷ nil_at w_value ∷ []

-- the state that knows these variables, with that next symbol
abbrev pub knows : List (Var × Term) → (next : ℕ) → State
knows vars next = first_state (links_of two_locks.program) vars next

-- its local and the variables of both resources are nil, nothing is assumed, and at the end both
-- invariants are due
unfoldable pub InitBeginsWithNil : Type 0
InitBeginsWithNil =
    first_goal two_locks (record { 0 = 0 }) sets_up_both
    ≡ goal_at (knows ((Own 0, Nil) ∷ (v, Nil) ∷ (w, Nil) ∷ []) 0)
    (run (new place (record { var = v; place = place }))
    ∷ run (assign place (record { var = w; place = place }) ENil)
    ∷ return place both_invariants ∷ [])

-- a procedure that holds a resource knows nothing of its variable but what the precondition says,
-- which is due at the end
unfoldable pub HoldersBeginWithThePrecondition : Type 0
HoldersBeginWithThePrecondition =
    first_goal two_locks (record { 0 = 1 }) holds_lock
    ≡ goal_at (knows ((Own 0, Sym 0) ∷ (v, Sym 1) ∷ []) 2)
    (assumes (cell_at (Sym 1)) ∷ return place (one_cell_at v_value ∷ []) ∷ [])

-- return: both invariants are due, one after the other, and then nothing may be left
unfoldable pub InitShowsEachInvariant : Type 0
InitShowsEachInvariant =
    Leaves two_locks
    (goal_at (record (state_with []) { vars = (v, Sym 1) ∷ (w, Nil) ∷ [] })
    (return place both_invariants ∷ [])) t.Return
    (goal_at (record (state_with []) { vars = (v, Sym 1) ∷ (w, Nil) ∷ [] })
    (shows (cell_at (Sym 1)) ∷ shows (same Nil Nil) ∷ end place ∷ []) ∷ [])
