use Rattle.std.proofs.Common.{◌≡◌, drop}
use Rattle.sf_core.specs.Machine.Config.{task_at}
use Rattle.sf_machine.specs.Tasks.{task_of}
use Rattle.sf_machine.proofs.task.Task.at.Given as goal

-- the task at the end of what is left of the path is the one that is looked for
abbrev pub invariant-loop-turn : goal.invariant-loop-turn
invariant-loop-turn l =
    task_at (drop l.turn-index l.path) (task_of l.task) ≡ task_at l.path (task_of l.self)
