-- Seen: which command a task of a configuration does next, and what its variables are there.
-- Ordinary: a frame of a stack, and its slots in a store.
use Rattle.std.specs.Prelude.{◌≡◌, List, ◌∷◌, Some, unwrap_or}
use Rattle.sf_base.specs.declared.value.Value.{Value}
use Rattle.sf_base.specs.declared.value.Value.TheVariants.{Nil as nil}
use Rattle.sf_base.specs.declared.ids.Var.{Var}
use Rattle.sf_core.specs.Machine.Config.{Config, Fixed, Frame, Item, Path, command, task_at}
use Rattle.sf_core.specs.Machine.Step.{task_with}
use Rattle.sf_core.specs.Program.Syntax.{Command}

-- the innermost frame of the task at the path has that fixed part, and that command is next to do there
abbrev pub DoesInFrame : Config → Path → Fixed → Command → Type 0
DoesInFrame c path f one = (below : List Frame) × (rest : List Item)
    × (task_at path c.tasks ≡ Some (task_with f (command one ∷ rest) below))

-- the task at the path does that command next
abbrev pub DoesNext : Config → Path → Command → Type 0
DoesNext c path one = (f : Fixed) × DoesInFrame c path f one

-- the variable has that value in the frame that does the next command of the task at the path
abbrev pub HasThere : Config → Path → Var → Value → Type 0
HasThere c path x v = (f : Fixed) × (one : Command) × DoesInFrame c path f one
    × (v ≡ unwrap_or (c.common.store (f.slots x)) nil)
