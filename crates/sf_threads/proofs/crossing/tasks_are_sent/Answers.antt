use denote.Param.Send.{view_send}
use denote.Param.SendFields.{declared_send}
use Rattle.sf_region.specs.contracts.task.Task.TheInside as task
use Rattle.sf_threads.proofs.crossing.tasks_are_sent.Goals as goal

pub returns : goal.returns
returns c κ = view_send (task.the_row κ) _ _ _ _ (declared_send (task.the_type κ)
    (c.parts_are_sent.ensures κ, (c.seats_are_sent.ensures κ, tt)))
