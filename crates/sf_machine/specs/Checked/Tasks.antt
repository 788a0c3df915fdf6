-- What a change makes of a tree of tasks, and the room that it needs.
-- Ordinary: a tree with one node changed.
use Rattle.std.specs.Prelude.{[], ◌∷◌}
use Rattle.sf_base.specs.declared.path.Turn.TheVariants.{Left as left, Right as right}
use Rattle.sf_core.specs.Machine.Config.{Task, runs, waits, Path}
use Rattle.sf_frame.specs.Checked.Frames.{moved as stack_moved, HasRoom as HasStackRoom}
use Rattle.sf_frame.specs.declared.frame.Way.TheVariants.{Past}
use Rattle.sf_frame.specs.declared.stack.Change.TheVariants.{GoOn as go_on}
use Rattle.sf_frame.specs.declared.stack.Stack.{Stack}
use Rattle.sf_machine.specs.declared.task.Task.{Task as CodeTask}
use Rattle.sf_machine.specs.declared.task.Task.TheVariants.{Over, Runs, Waits'}
use Rattle.sf_machine.specs.declared.task.Change.{Change}
use Rattle.sf_machine.specs.declared.task.Change.TheVariants.{Steps, Fork, Join}
use Rattle.sf_machine.specs.Tasks.{task_of}

-- what a change makes of a task
abbrev pub moved : Change → Task → Task
moved (Steps change) (runs frames) = runs (stack_moved change frames)
moved (Fork one two) (runs (f ∷ below)) =
    waits (stack_moved (go_on Past) (f ∷ below)) (task_of one.value) (task_of two.value)
moved Join (waits frames one two) = runs frames
moved _ t = t

-- the tree with the task at the end of the path changed
abbrev pub at_path : Path → (Task → Task) → Task → Task
at_path [] f t = f t
at_path (left ∷ path) f (waits frames one two) = waits frames (at_path path f one) two
at_path (right ∷ path) f (waits frames one two) = waits frames one (at_path path f two)
at_path (left ∷ path) f (runs frames) = runs frames
at_path (right ∷ path) f (runs frames) = runs frames

-- a stack of frames has room for a change of its task
abbrev pub HasRoomIn : Change → Stack → Type 0
HasRoomIn (Steps change) s = HasStackRoom change s
HasRoomIn (Fork one two) s = Unit {0}
HasRoomIn Join s = Unit {0}

-- the task at the end of the path has room for a change
abbrev pub HasRoom : Path → Change → CodeTask → Type 0
HasRoom [] change Over = Unit {0}
HasRoom [] change (Runs s) = HasRoomIn change s
HasRoom [] change (Waits' s p one q two) = Unit {0}
HasRoom (turn ∷ path) change Over = Unit {0}
HasRoom (turn ∷ path) change (Runs s) = Unit {0}
HasRoom (left ∷ path) change (Waits' s p one q two) = HasRoom path change one
HasRoom (right ∷ path) change (Waits' s p one q two) = HasRoom path change two
