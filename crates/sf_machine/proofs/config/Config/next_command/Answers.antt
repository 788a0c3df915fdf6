use Rattle.sf_frame.specs.Frames.{fixed_of}
use Rattle.sf_machine.proofs.Enabling.{there_is}
use Rattle.sf_machine.proofs.config.Config.next_command.Goals as goal

pub returns-in-Does : goal.returns-in-Does
returns-in-Does c = (
  fixed_of c.in-Does.field-0.now,
  (
    c.in-Does.ensures.0,
    c.in-Does.ensures.1,
    there_is _ _ c.args.task c.turns.result.now _ c.in_ok-at.ensures c.turns.ensures c.in-Does.ensures.2,
  ),
)
