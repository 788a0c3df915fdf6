use Rattle.sf_region.proofs.Used.{drained-steps}
use Rattle.sf_region.proofs.laws.drained_tasks_have_spent_steps.Goals as goal

pub returns : goal.returns
returns c = drained-steps c.spent_tasks_have_spent_steps.ensures
