use Rattle.std.proofs.Common.{◌≡◌, Some, length}
use Rattle.sf_replay.specs.Checked.Turns.{ahead}
use Rattle.sf_replay.specs.ScheduleText.{path_within, turns_from}
use Rattle.sf_replay.proofs.naming.path_from.Given as goal

-- the turns that are written are those of the path, and then those that are left
abbrev pub invariant-turns : goal.invariant-turns
invariant-turns l = (path_within (turns_from l.turns) ≡ path_within (ahead l.path (turns_from l.left)))
    × (path_within (Some l.path) ≡ Some l.path)

abbrev pub decreases-turns : goal.decreases-turns
decreases-turns l = length l.left
