use Rattle.sf_core.specs.Program.View.{command_of}
use Rattle.sf_machine.specs.Configs.{config_of}
use Rattle.sf_frame.specs.Frames.{fixed_of}
use Rattle.sf_machine.proofs.Enabling.{there_is}
use Rattle.sf_machine.proofs.TaskPaths.{absent_does}
use Rattle.sf_machine.proofs.missing.absent.Goals as goal

pub returns-in-Does : goal.returns-in-Does
returns-in-Does c = absent_does (config_of c.args.c.now) c.args.task (fixed_of c.in-Does.frame.now)
    c.in-Does.ensures.0 (command_of c.in-Does.command.now) c.in-Does.ensures.1 c.missed.result
    (there_is _ _ c.args.task c.turns.result.now _ c.in_ok-at.ensures c.turns.ensures c.in-Does.ensures.2)
    c.missed.ensures
