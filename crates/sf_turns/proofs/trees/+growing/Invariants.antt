use Rattle.std.proofs.Common.{◌+◌, ◌*◌}
use Rattle.sf_turns.proofs.trees.+growing.Given as goal

abbrev pub decreases-grown : goal.decreases-grown
decreases-grown l = 2 * l.levels

abbrev pub decreases-grown_below : goal.decreases-grown_below
decreases-grown_below l = 2 * l.levels + 1
