-- The value at which a task's next step finds no cell.
-- O'Hearn (2007); Brookes (2007): programs without memory faults.
use Rattle.std.specs.Prelude.{◌≡◌, Option, Some, None}
use Rattle.sf_base.specs.declared.value.Value.{Value}
use Rattle.sf_core.specs.declared.command.Expr.{Expr}
use Rattle.sf_core.specs.Machine.Bad.{IsAtNoCell}
use Rattle.sf_core.specs.Machine.Config.{Task, Path, Common, Config, evaluate}
use Rattle.sf_core.specs.Machine.Enabled.{IsEnabled}
use Rattle.sf_core.specs.Machine.Next.{Next, does, leaves, returns, joins, nothing, next}
use Rattle.sf_core.specs.Program.Syntax.{Command, look_up, mutate, dispose}

-- the value at which a command looks for a cell, if it does
abbrev pub root_in : (see : Expr → Value) → Command → Option Value
root_in see (look_up place x e g) = Some (see e)
root_in see (mutate place e g v) = Some (see e)
root_in see (dispose place e) = Some (see e)
root_in see _ = None

-- the value at which what comes next looks for a cell, if it does
abbrev pub root_of : Common → Next → Option Value
root_of s (does f below c rest) = root_in (evaluate f.slots s.store) c
root_of s (leaves f below r rest) = None
root_of s (returns f below) = None
root_of s (joins frames one two) = None
root_of s nothing = None

-- the task at the path is enabled, and its next step looks for a cell at that value, which is no location of the
-- heap
pub record IsAtAbsent (c : Config) (path : Path) (value : Value) : Type 0 where
  pub task : Task
  pub enabled : IsEnabled c path task
  pub absent : IsAtNoCell c.common (next task)
  pub is : root_of c.common (next task) ≡ Some value
