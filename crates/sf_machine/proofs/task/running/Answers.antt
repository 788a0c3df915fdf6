use Rattle.std.proofs.Common.{List, ap}
use Rattle.sf_core.specs.Machine.Config.{Frame, waits}
use Rattle.sf_machine.specs.Tasks.{task_of}
use Rattle.sf_machine.proofs.task.running.Goals as goal

pub returns-in-Fork : goal.returns-in-Fork
returns-in-Fork c = rw c.in-Fork.is (ap (λ (z : List Frame). waits z (task_of c.in-Fork.left.value)
    (task_of c.in-Fork.right.value)) c.advanced.ensures)
