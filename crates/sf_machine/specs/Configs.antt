-- The configurations of the code as those of the definitions.
-- Ordinary: finite sets as sets.
use Rattle.std.specs.Prelude.{length}
use Rattle.std.specs.Ordering.{nat_cmp}
use Rattle.std.specs.BTreeSet.{contains}
use Rattle.sf_core.specs.Machine.Config.{Config}
use Rattle.sf_core.specs.Program.Syntax.{Program}
use Rattle.sf_foot.specs.Starting.{HasWidth}
use Rattle.sf_frame.specs.Commons.{common_of}
use Rattle.sf_machine.specs.declared.config.Config.{Config as CodeConfig}
use Rattle.sf_machine.specs.Tasks.{task_of}

-- the configuration
abbrev pub config_of : CodeConfig → Config
config_of c = record { common = common_of c.common; used = contains nat_cmp c.used; tasks = task_of c.tasks }

-- each cell of the configuration has a value for each field of the program
abbrev pub IsWide : Program → CodeConfig → Type 0
IsWide p c = HasWidth (length p.fields) c.common.heap
