-- The rows of loops: loop, around, again.
-- Berdine, Calcagno, O'Hearn, "Smallfoot" (2005): an invariant is handed over, and taken up again by the body and by
-- what comes after the loop.
use Rattle.std.specs.Prelude.{Option, Some, None, List, [], ◌∷◌, ◌++◌, length}
use Rattle.sf_base.specs.declared.ids.Var.{Var}
use Rattle.sf_base.specs.declared.place.Place.{Place}
use Rattle.sf_core.specs.declared.assertion.Test.{Test}
use Rattle.sf_core.specs.declared.command.Expr.{Expr}
use Rattle.sf_core.specs.declared.command.Expr.TheVariants.{Nil as ENil}
use Rattle.sf_core.specs.Program.Syntax.{Assertion, Block, Command, while}
use Rattle.sf_sym.specs.Goal.{Item, head, again, end, Goal, one_goal, to_run}
use Rattle.sf_sym.specs.State.{State, term}
use Rattle.sf_rules.specs.Rules.{unknown_in}
use Rattle.sf_rules.specs.Setting.{Setting}
use Rattle.sf_rules.specs.Checked.Few.{if_few}
use Rattle.sf_rules.specs.Words.{negation, to_add, to_add_test, to_take}
use Rattle.sf_sym.specs.Variables.{with_fresh}

-- loop: the invariant is due, and then the loop begins
abbrev pub loop_row : Setting → State → Command → List Item → Option (List Goal)
loop_row d s (while p t invariant body) rest =
    one_goal s (to_take p (term s.vars) (d.ordered invariant) ++ (head p t invariant body ∷ rest))
loop_row d s _ rest = None

-- the body once, from the invariant alone and where the test is true, in that state
abbrev pub body_once : Setting → State → Place → Test Expr → (invariant : Assertion) → Block → Goal
body_once d s p t invariant body = record {
  state = record s { atoms = []; taken = [] };
  todo = to_add p (term s.vars) (d.ordered invariant) ++ (to_add_test p (term s.vars) t
      ++ (to_run body ++ (again p invariant ∷ [])));
}

-- what comes after the loop, from the invariant beside what was kept and where the test is false, in that state
abbrev pub after_loop : Setting → State → Place → Test Expr → (invariant : Assertion) → List Item → Goal
after_loop d s p t invariant rest = record {
  state = record s { taken = [] };
  todo = to_add p (term s.vars) (d.ordered invariant)
      ++ (to_add_test p (term s.vars) (negation ENil t) ++ rest);
}

-- around: these variables are unknown. First the body once, second what comes after the loop
abbrev pub around_with : Setting → (unknown : List Var) → State → Place → Test Expr
    → (invariant : Assertion) → Block → List Item → Option (List Goal)
around_with d unknown s p t invariant body rest =
    let now = with_fresh unknown s in
    if_few (length unknown)
    (Some (body_once d now p t invariant body ∷ after_loop d now p t invariant rest ∷ []))

-- around: what the body leaves unknown gets fresh symbols
abbrev pub around_row : Setting → State → Place → Test Expr → (invariant : Assertion) → Block
    → List Item → Option (List Goal)
around_row d s p t invariant body rest = around_with d (unknown_in d s body) s p t invariant body rest

-- again: the invariant is due, and nothing may be left
abbrev pub again_row : Setting → State → Place → (invariant : Assertion) → List Item → Option (List Goal)
again_row d s p invariant rest = one_goal s (to_take p (term s.vars) (d.ordered invariant) ++ (end p ∷ []))
