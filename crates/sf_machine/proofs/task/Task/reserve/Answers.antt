use Rattle.std.proofs.Common.{◌∙◌, ap, sym}
use Rattle.sf_core.specs.Machine.Config.{runs}
use Rattle.sf_machine.specs.Tasks.{task_of}
use Rattle.sf_machine.proofs.task.Task.reserve.Goals as goal

pub returns-in_err-reserve_in-clause-same : goal.returns-in_err-reserve_in-clause-same
returns-in_err-reserve_in-clause-same c = ap runs c.reserve_in.ensures.same
    ∙ sym (ap task_of c.in-Runs.is)

pub returns-in_ok-reserve_in-clause-same : goal.returns-in_ok-reserve_in-clause-same
returns-in_ok-reserve_in-clause-same c = ap runs c.reserve_in.ensures.same
    ∙ sym (ap task_of c.in-Runs.is)
