-- What an event makes of a configuration, as the code keeps it.
-- Ordinary: the parts one by one.
use Rattle.sf_core.specs.Machine.Config.{Config, adds}
use Rattle.sf_core.specs.Machine.Step.{Event}
use Rattle.sf_frame.specs.declared.effect.Effect.{Effect}
use Rattle.sf_machine.specs.declared.task.Change.{Change}
use Rattle.sf_frame.specs.Checked.Effects.{applied}
use Rattle.sf_machine.specs.Checked.Tasks.{at_path, moved}

-- the configuration after an event with that effect and that change of its task
abbrev pub performed : Event → Effect → Change → Config → Config
performed ev effect change c = record {
  common = applied ev effect c.common;
  used = adds ev.number c.used;
  tasks = at_path ev.task (moved change) c.tasks;
}
