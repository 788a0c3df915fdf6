-- The rows of critical regions: enter, exit.
-- O'Hearn, "Resources, Concurrency and Local Reasoning" (2007): the invariant is lent for the region.
use Rattle.std.specs.Prelude.{Option, None, List, [], ◌∷◌, ◌++◌, length}
use Rattle.std.specs.List.{slice_get}
use Rattle.std.specs.Option.{option_and_then}
use Rattle.sf_base.specs.declared.ids.ResId.{ResId}
use Rattle.sf_base.specs.declared.ids.Var.{Var}
use Rattle.sf_base.specs.declared.place.Place.{Place}
use Rattle.sf_core.specs.declared.assertion.Test.{Test}
use Rattle.sf_core.specs.declared.command.Expr.{Expr}
use Rattle.sf_core.specs.Program.Syntax.{Assertion, Command, with, Block, Resource}
use Rattle.sf_sym.specs.Goal.{Item, gave, exit, Goal, one_goal, to_run}
use Rattle.sf_sym.specs.State.{State, term}
use Rattle.sf_rules.specs.Checked.Few.{if_few}
use Rattle.sf_rules.specs.Resources.{variables_from}
use Rattle.sf_rules.specs.Setting.{Setting}
use Rattle.sf_rules.specs.Words.{to_add, to_add_test, to_take}
use Rattle.sf_sym.specs.Variables.{with_fresh}

-- enter: the resource's variables are there, with unknown values; its invariant and the condition are assumed
abbrev pub entered_with : State → Place → List Var → (invariant : Assertion) → Test Expr → List Item
    → Option (List Goal)
entered_with s p xs invariant t inside =
    let now = with_fresh xs s in
    if_few (length xs) (one_goal now
    (to_add p (term now.vars) invariant ++ (to_add_test p (term now.vars) t ++ inside)))

abbrev pub entered : Setting → State → Place → ResId → Test Expr → Block → List Item → Resource
    → Option (List Goal)
entered d s p r t body rest of =
    entered_with s p (variables_from r 0 of.variables) (d.ordered of.invariant) t
    (to_run body ++ (exit p r ∷ rest))

abbrev pub enter_row : Setting → State → Command → List Item → Option (List Goal)
enter_row d s (with p r t body) rest =
    option_and_then (entered d s p r t body rest) (slice_get d.program.resources r.0)
enter_row d s _ rest = None

-- exit: the invariant is due, and then the resource's variables are gone
abbrev pub exit_row : Setting → State → Place → ResId → List Item → Option (List Goal)
exit_row d s p r rest =
    option_and_then (λ of. one_goal s
    (to_take p (term s.vars) (d.ordered of.invariant)
    ++ (gave p [] (variables_from r 0 of.variables) ∷ rest)))
    (slice_get d.program.resources r.0)
