use Rattle.std.proofs.Common.{◌<◌, ◌∙◌, [], ap, sym, drop, length, length-drop, arith}
use Rattle.sf_core.specs.Machine.Config.{task_at}
use Rattle.sf_machine.specs.Tasks.{task_of}
use Rattle.sf_machine.specs.declared.task.Task.{Task}
use Rattle.sf_machine.proofs.TaskPaths.{at_leaf}
use Rattle.sf_machine.proofs.task.Task.at.Goals as goal

pub returns-in-Over : goal.returns-in-Over
returns-in-Over c =
    let left = drop c.loop-turn.turn-index c.args.path.now in
    let more : 0 < length left = omega (arith, length-drop c.loop-turn.turn-index c.args.path.now) in
    sym (ap (λ (z : Task). task_at left (task_of z)) c.in-Over.is ∙ at_leaf left [] more)
    ∙ c.loop-turn.invariant

pub returns-in-Runs : goal.returns-in-Runs
returns-in-Runs c =
    let left = drop c.loop-turn.turn-index c.args.path.now in
    let more : 0 < length left = omega (arith, length-drop c.loop-turn.turn-index c.args.path.now) in
    sym (ap (λ (z : Task). task_at left (task_of z)) c.in-Runs.is ∙ at_leaf left _ more)
    ∙ c.loop-turn.invariant
