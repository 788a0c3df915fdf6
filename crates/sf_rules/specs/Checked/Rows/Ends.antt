-- The rows of a procedure's end: return, end.
-- Berdine, Calcagno, O'Hearn, "Smallfoot" (2005): the postcondition is handed over, and nothing may be left. That
-- `init` hands over the invariants of all resources is this project's own.
use Rattle.std.specs.Prelude.{Bool, true, false, cond, Option, Some, None, List, [], ◌∷◌}
use Rattle.sf_base.specs.declared.place.Place.{Place}
use Rattle.sf_core.specs.Program.Syntax.{Assertion}
use Rattle.sf_sym.specs.declared.atom.Numbered.{Numbered}
use Rattle.sf_sym.specs.Goal.{Item, end, Goal, one_goal}
use Rattle.sf_sym.specs.State.{State, term}
use Rattle.sf_rules.specs.Words.{to_take_each}

-- return: what the procedure owes is due, one assertion after the other, and then nothing may be left
abbrev pub return_row : State → Place → (owed : List Assertion) → List Item → Option (List Goal)
return_row s p owed rest = one_goal s (to_take_each p (term s.vars) owed (end p ∷ []))

-- no atom is there
abbrev pub is_empty : List Numbered → Bool
is_empty [] = true
is_empty (x ∷ xs) = false

-- end: no atom is left
abbrev pub end_row : State → Place → List Item → Option (List Goal)
end_row s p rest = cond (is_empty s.atoms) (Some []) None
