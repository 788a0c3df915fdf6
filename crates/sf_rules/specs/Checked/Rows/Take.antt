-- The row of what is to be shown and handed over: the first wanted conjunct by a step of subtraction.
-- Berdine, Calcagno, O'Hearn, "Symbolic Execution with Separation Logic" (2005), section 5: subtraction.
use Rattle.std.specs.Prelude.{ℕ, Option, List, ◌++◌}
use Rattle.std.specs.Option.{option_and_then}
use Rattle.sf_base.specs.declared.place.Place.{Place}
use Rattle.sf_consume.specs.Subtract.{new_symbols, subtracted}
use Rattle.sf_consume.specs.Wants.{still_wanted, wanting}
use Rattle.sf_sym.specs.Goal.{Item, Goal, one_goal, taking}
use Rattle.sf_sym.specs.Pending.{Pending}
use Rattle.sf_rules.specs.Checked.Few.{if_few}
use Rattle.sf_sym.specs.State.{State}
use Rattle.sf_sym.specs.declared.tag.Tag.{Tag}

-- a tag of subtraction: what is left of the first wanted conjunct by the step that it names
abbrev pub subtract_row : Tag → State → Place → Pending → (names : List (List ℕ)) → List Item → Option (List Goal)
subtract_row tag s p want names rest =
    if_few (new_symbols want.conjuncts)
    (option_and_then (λ w. one_goal w.state (taking p (still_wanted w) names ++ rest)) (subtracted tag (wanting s want)))
