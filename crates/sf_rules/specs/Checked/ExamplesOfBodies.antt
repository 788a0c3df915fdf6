-- Examples of the rules of loops, calls, regions and ends on small goals.
-- The goals are in the manner of Berdine, Calcagno, O'Hearn, "Smallfoot" (2005).
use Rattle.std.specs.Prelude.{◌∷◌, codes, []}
use Rattle.sf_base.specs.declared.ids.Var.{Var}
use Rattle.sf_base.specs.declared.ids.Var.TheVariants.{Own, Shared}
use Rattle.sf_core.specs.declared.assertion.Operand.TheVariants.{Known}
use Rattle.sf_core.specs.declared.assertion.Test.{Test}
use Rattle.sf_core.specs.declared.assertion.Test.TheVariants.{True, Equal, Differ}
use Rattle.sf_core.specs.Checked.Assertions.Examples.{place}
use Rattle.sf_core.specs.Checked.Machine.Examples.{at_own, emp, lock, one_cell, one_cell_at, own_one, procedure}
use Rattle.sf_core.specs.declared.command.Expr.{Expr}
use Rattle.sf_core.specs.declared.command.Expr.TheVariants.{Var as Variable, Nil as ENil}
use Rattle.sf_core.specs.Program.Syntax.{Assertion, Call, Command, Conjuncts, none, also, holds, points, level, assign, while, call, fork, with, done, then, Procedure, Resource}
use Rattle.sf_sym.specs.declared.atom.Atom.TheVariants.{Points, Ls}
use Rattle.sf_sym.specs.declared.tag.Tag.TheVariants as t
use Rattle.sf_sym.specs.declared.term.Term.{Term}
use Rattle.sf_sym.specs.declared.term.Term.TheVariants.{Nil, Sym}
use Rattle.sf_sym.specs.Checked.Examples.{state_with}
use Rattle.sf_sym.specs.Goal.{Item, run, add, take, gave, head, again, exit, return, end}
use Rattle.sf_sym.specs.State.{State}
use Rattle.sf_rules.specs.Checked.Examples.{before, changing_x, ends, goal_at, only, two_variables}
use Rattle.sf_rules.specs.Rules.{HasNoRule, Leaves}
use Rattle.sf_rules.specs.Setting.{Setting}

-- to show and to assume these conjuncts, which have no existentials
abbrev pub shows : Conjuncts Term → Item
shows cs = take place (record { conjuncts = cs; bindings = [] }) []

abbrev pub assumes : Conjuncts Term → Item
assumes cs = add place (record { conjuncts = cs; bindings = [] })

-- a cell at that term
abbrev pub cell_at : Term → Conjuncts Term
cell_at u = also (points place (Known u) []) none

-- the two terms are the same, and differ
abbrev pub same : Term → Term → Conjuncts Term
same u v = also (holds place (Equal (Known u) (Known v))) none

abbrev pub other : Term → Term → Conjuncts Term
other u v = also (holds place (Differ (Known u) (Known v))) none

-- the variable v of the resource, which its first region may change
abbrev pub v : Var
v = Shared lock 0

-- that variable as an expression
abbrev pub v_value : Expr
v_value = Variable (record { var = v; place = place })

-- an expression is nil
abbrev pub nil_at : Expr → Assertion
nil_at e = record {
  names = [];
  level =
      level (record { first = 0; count = 0 })
      (also (holds place (Equal (Known e) (Known ENil))) none);
}

-- f(x;) has a cell at x before, and x is nil after it
abbrev pub f : Procedure
f = record (procedure (codes "x" ∷ []) 1 0 one_cell done) { post = nil_at (own_one 0) }

-- g(y) has y nil before, and a cell at v after it
abbrev pub g : Procedure
g = record (procedure (codes "y" ∷ []) 0 1 (nil_at (own_one 0)) done) { post = one_cell_at v_value }

-- the resource, whose invariant is a cell at v
abbrev pub guarded : Resource
guarded = record { name = codes "r"; variables = codes "v" ∷ []; invariant = one_cell_at v_value }

-- a setting of these: v is free in g, and annotations are in order as they are
abbrev pub small : Setting
small = record {
  program = record { fields = []; resources = guarded ∷ []; procedures = f ∷ g ∷ [] };
  sets = record { takes = [] ∷ [] ∷ []; holds = [] ∷ [] ∷ []; free = [] ∷ (v ∷ []) ∷ [] };
  ordered = λ a. a;
}

-- x = s0, y = s1 and v is nil
abbrev pub three_variables : State
three_variables = record (state_with []) { vars = (Own 0, Sym 0) ∷ (Own 1, Sym 1) ∷ (v, Nil) ∷ [] }

-- f(x;) and g(y)
abbrev pub calls_f : Call
calls_f =
    record { callee = record { 0 = 0 }; place = place; references = at_own 0 ∷ []; values = [] }

abbrev pub calls_g : Call
calls_g =
    record { callee = record { 0 = 1 }; place = place; references = []; values = own_one 1 ∷ [] }

-- a call of a procedure that isn't there
abbrev pub calls_nobody : Call
calls_nobody = record calls_g { callee = record { 0 = 2 } }

-- call: what g asks of y is due, then v is unknown, and what g leaves of it is assumed. The same of
-- f, of x. A procedure that isn't there isn't called
unfoldable pub CallsLeaveThreeItems : Type 0
CallsLeaveThreeItems =
    (Leaves small (before three_variables (call place calls_g)) t.Call
    (goal_at (record three_variables { next_sym = 3 })
    (shows (same (Sym 1) Nil) ∷ gave place ((v, Sym 2) ∷ []) [] ∷ assumes (cell_at (Sym 2)) ∷ ends)
    ∷ []))
    × (Leaves small (before three_variables (call place calls_f)) t.Call
    (goal_at (record three_variables { next_sym = 3 })
    (shows (cell_at (Sym 0)) ∷ gave place ((Own 0, Sym 2) ∷ []) [] ∷ assumes (same (Sym 2) Nil)
    ∷ ends) ∷ []))
    × (HasNoRule small (before three_variables (call place calls_nobody)) t.Call)

-- fork: what both ask is due, then x and v are unknown, and what each leaves is assumed. Both are
-- there
unfoldable pub ForksLeaveFiveItems : Type 0
ForksLeaveFiveItems =
    (Leaves small (before three_variables (fork place calls_f calls_g)) t.Fork
    (goal_at (record three_variables { next_sym = 4 })
    (shows (cell_at (Sym 0)) ∷ shows (same (Sym 1) Nil)
    ∷ gave place ((Own 0, Sym 2) ∷ (v, Sym 3) ∷ []) []
    ∷ assumes (same (Sym 2) Nil) ∷ assumes (cell_at (Sym 3)) ∷ ends) ∷ []))
    × (HasNoRule small (before three_variables (fork place calls_nobody calls_g)) t.Fork)
    × (HasNoRule small (before three_variables (fork place calls_f calls_nobody)) t.Fork)

-- give: what was taken is gone, x has another term, and v has none
unfoldable pub GivenIsGone : Type 0
GivenIsGone = (d : Setting)
    → Leaves d (goal_at (record three_variables { taken = only (Ls (Sym 1) Nil) })
    (gave place ((Own 0, Sym 1) ∷ []) (v ∷ []) ∷ ends)) t.Give
    (goal_at (record three_variables { vars = (Own 0, Sym 1) ∷ (Own 1, Sym 1) ∷ [] }) ends ∷ [])

-- enter: v is unknown, the resource's invariant and the condition are assumed, then come the body
-- and the region's end. A resource that isn't there isn't entered
unfoldable pub RegionsBeginWithTheInvariant : Type 0
RegionsBeginWithTheInvariant =
    (Leaves small
    (before (two_variables []) (with place lock (Differ v_value ENil) changing_x)) t.Enter
    (goal_at (record (two_variables []) {
      vars = (Own 0, Sym 0) ∷ (Own 1, Sym 1) ∷ (v, Sym 2) ∷ [];
      next_sym = 3;
    })
    (assumes (cell_at (Sym 2)) ∷ assumes (other (Sym 2) Nil) ∷ run (assign place (at_own 0) ENil)
    ∷ exit place lock ∷ ends) ∷ []))
    × (HasNoRule small
    (before (two_variables []) (with place (record { 0 = 1 }) (Differ v_value ENil) changing_x))
    t.Enter)

-- exit: the invariant is due of the value that v has, and then v goes; a resource that isn't there
-- isn't left
unfoldable pub RegionsEndWithTheInvariant : Type 0
RegionsEndWithTheInvariant =
    (Leaves small (goal_at (record (two_variables []) { vars = (Own 0, Sym 0) ∷ (v, Sym 1) ∷ [] })
    (exit place lock ∷ ends)) t.Exit
    (goal_at (record (two_variables []) { vars = (Own 0, Sym 0) ∷ (v, Sym 1) ∷ [] })
    (shows (cell_at (Sym 1)) ∷ gave place [] (v ∷ []) ∷ ends) ∷ []))
    × (HasNoRule small (goal_at (two_variables []) (exit place (record { 0 = 1 }) ∷ ends)) t.Exit)

-- while (x != nil) [x|->] { x = nil; }
abbrev pub not_nil : Test Expr
not_nil = Differ (own_one 0) ENil

-- loop: the invariant is due, and then the loop is at its head
unfoldable pub LoopsBeginWithTheInvariant : Type 0
LoopsBeginWithTheInvariant =
    Leaves small (before (two_variables []) (while place not_nil one_cell changing_x)) t.Loop
    (goal_at (two_variables [])
    (shows (cell_at (Sym 0)) ∷ head place not_nil one_cell changing_x ∷ ends) ∷ [])

-- the state after that loop's invariant was handed over and x became unknown
abbrev pub around_now : State
around_now = record (two_variables (only (Ls (Sym 1) Nil))) {
  vars = (Own 0, Sym 2) ∷ (Own 1, Sym 1) ∷ [];
  next_sym = 3;
}

-- around: first the body, from the invariant alone and where x isn't nil; second what comes after
-- the loop, from the invariant beside what was kept and where x is nil. What was handed over is
-- gone in both
unfoldable pub LoopsGoOnceAround : Type 0
LoopsGoOnceAround =
    Leaves small
    (goal_at
    (record (two_variables (only (Ls (Sym 1) Nil))) { taken = only (Points (Sym 0) []) })
    (head place not_nil one_cell changing_x ∷ ends)) t.Around
    (goal_at (record around_now { atoms = [] })
    (assumes (cell_at (Sym 2)) ∷ assumes (other (Sym 2) Nil) ∷ run (assign place (at_own 0) ENil)
    ∷ again place one_cell ∷ [])
    ∷ goal_at around_now (assumes (cell_at (Sym 2)) ∷ assumes (same (Sym 2) Nil) ∷ ends)
    ∷ [])

-- with r when (true) v = nil, where v is a variable of r
abbrev pub region_changing_v : Command
region_changing_v =
    with place lock True (then (assign place (record { var = v; place = place }) ENil) done)

-- around: a loop `while (true) [emp] { with r when (true) v = nil; }`. Outside of the region v has
-- no term, and the loop gives it none, so that the next symbol is the one that it was
unfoldable pub LoopsGiveNoTerms : Type 0
LoopsGiveNoTerms =
    Leaves small
    (goal_at (state_with (only (Ls (Sym 1) Nil)))
    (head place True emp (then region_changing_v done) ∷ ends)) t.Around
    (goal_at (state_with []) (run region_changing_v ∷ again place emp ∷ [])
    ∷ goal_at (state_with (only (Ls (Sym 1) Nil))) (assumes (other Nil Nil) ∷ ends)
    ∷ [])

-- again: the invariant is due of the value that x has, and nothing may be left; whatever comes then
-- isn't done
unfoldable pub BodiesEndWithTheInvariant : Type 0
BodiesEndWithTheInvariant =
    Leaves small
    (goal_at (two_variables [])
    (again place one_cell ∷ run (assign place (at_own 0) ENil) ∷ ends)) t.Again
    (goal_at (two_variables []) (shows (cell_at (Sym 0)) ∷ end place ∷ []) ∷ [])

-- return: the same of what the procedure owes, which is its postcondition
unfoldable pub ReturnsShowThePostcondition : Type 0
ReturnsShowThePostcondition =
    Leaves small
    (goal_at (two_variables [])
    (return place (one_cell ∷ []) ∷ run (assign place (at_own 0) ENil) ∷ ends)) t.Return
    (goal_at (two_variables []) (shows (cell_at (Sym 0)) ∷ end place ∷ []) ∷ [])

-- end: nothing is left to prove where there is no atom, and where there is one, there is no such
-- rule
unfoldable pub NothingIsLeftAtTheEnd : Type 0
NothingIsLeftAtTheEnd = (d : Setting)
    → (Leaves d (goal_at (state_with []) ends) t.End [])
    × (HasNoRule d (goal_at (state_with (only (Ls (Sym 1) Nil))) ends) t.End)
