-- What a command looks for and doesn't find.
-- Ordinary: a value, and that no cell is there.
use Rattle.std.specs.Prelude.{◌≡◌, Some}
use Rattle.sf_base.specs.declared.value.Value.{Value}
use Rattle.sf_core.specs.Machine.Bad.{TouchesNoCell}
use Rattle.sf_core.specs.Machine.Config.{Common, Fixed, evaluate}
use Rattle.sf_core.specs.Program.Syntax.{Command}
use Rattle.sf_machine.specs.Absent.{root_in}

-- the command of a frame looks for a cell at that value, and there is none
abbrev pub Misses : Common → Fixed → Command → Value → Type 0
Misses s f c v = TouchesNoCell (evaluate f.slots s.store) s.heap c × (root_in (evaluate f.slots s.store) c ≡ Some v)
