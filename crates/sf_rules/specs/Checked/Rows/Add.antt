-- The row of what is assumed, where it needs few new numbers.
-- Berdine, Calcagno, O'Hearn, "Symbolic Execution with Separation Logic" (2005), section 4.
use Rattle.std.specs.Prelude.{Option, List}
use Rattle.sf_base.specs.declared.place.Place.{Place}
use Rattle.sf_produce.specs.Add.{add_row, operands}
use Rattle.sf_sym.specs.Goal.{Item, Goal}
use Rattle.sf_sym.specs.Pending.{Pending}
use Rattle.sf_sym.specs.State.{State}
use Rattle.sf_rules.specs.Checked.Few.{if_few}

-- add: the first conjunct to assume is assumed
abbrev pub assume_row : State → Place → Pending → List Item → Option (List Goal)
assume_row s p given rest = if_few (operands given.conjuncts) (add_row s p given rest)
