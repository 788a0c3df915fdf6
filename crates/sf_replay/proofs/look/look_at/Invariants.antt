use Rattle.std.proofs.Common.{◌++◌, List, length, map}
use Rattle.sf_machine.specs.Configs.{config_of}
use Rattle.sf_replay.specs.Checked.Looks.{AreLooks, Seen, seen_of}
use Rattle.sf_replay.proofs.look.look_at.Given as goal

-- what is known of the tasks that are left comes after what is known of the others
abbrev pub invariant-paths : goal.invariant-paths
invariant-paths l = (more : List Seen) → AreLooks (config_of l.c) l.left more
    → AreLooks (config_of l.c) l.paths (map seen_of l.looks.items ++ more)

abbrev pub decreases-paths : goal.decreases-paths
decreases-paths l = length l.left
