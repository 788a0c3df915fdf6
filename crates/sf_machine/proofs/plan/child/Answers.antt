use Rattle.std.proofs.Common.{◌∙◌, ap}
use Rattle.sf_core.specs.Machine.Config.{runs}
use Rattle.sf_machine.specs.Tasks.{task_of}
use Rattle.sf_machine.proofs.plan.child.Goals as goal

pub returns : goal.returns
returns c = ap task_of c.in_ok-task.ensures.ok ∙ ap runs c.of.ensures
