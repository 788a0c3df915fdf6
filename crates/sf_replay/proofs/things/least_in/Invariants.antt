use Rattle.std.proofs.Common.{◌≡◌, length}
use Rattle.sf_replay.specs.Checked.Looks.{least_in}
use Rattle.sf_replay.proofs.things.least_in.Given as goal

abbrev pub invariant-things : goal.invariant-things
invariant-things l = least_in l.fn.start l.of l.among ≡ least_in l.least l.left l.among

abbrev pub decreases-things : goal.decreases-things
decreases-things l = length l.left
