use Rattle.std.proofs.Common.{length, map}
use Rattle.std.specs.List.{All}
use Rattle.sf_core.specs.Machine.Bad.{Bad}
use Rattle.sf_core.specs.Program.ProgramView.{program_of}
use Rattle.sf_machine.specs.Configs.{config_of, IsWide as HasWideCells}
use Rattle.sf_machine.specs.Paths.{paths_of}
use Rattle.sf_machine.specs.Reached.{IsReached}
use Rattle.sf_replay.specs.Checked.Going.{Going}
use Rattle.sf_replay.specs.Checked.Looks.{AreLooks, seen_of}
use Rattle.sf_replay.specs.Checked.Taking.{IsWide}
use Rattle.sf_replay.proofs.replaying.replay_on.Given as goal

abbrev pub invariant-events : goal.invariant-events
invariant-events l = IsReached (program_of l.p) (config_of l.c)
    × HasWideCells (program_of l.p) l.c
    × All (IsWide (length l.p.fields.items)) l.left
    × Going (program_of l.p) (config_of l.initial.c) l.events l.left l.number (config_of l.c)
    × AreLooks (config_of l.c) (paths_of (config_of l.c).tasks) (map seen_of l.looks.items)
    × (Bad (config_of l.c) → ⊥)

abbrev pub decreases-events : goal.decreases-events
decreases-events l = length l.left
