-- The tree of tasks as the tree of the definitions.
-- Ordinary: each with its frames.
use Rattle.std.specs.Prelude.{[]}
use Rattle.sf_core.specs.Machine.Config.{Task, runs, waits}
use Rattle.sf_frame.specs.Frames.{stack_of}
use Rattle.sf_machine.specs.declared.task.Task.{Task as CodeTask}
use Rattle.sf_machine.specs.declared.task.Task.TheVariants.{Over, Runs, Waits'}

-- a task
abbrev pub task_of : CodeTask → Task
task_of Over = runs []
task_of (Runs s) = runs (stack_of s)
task_of (Waits' s p one q two) = waits (stack_of s) (task_of one) (task_of two)
