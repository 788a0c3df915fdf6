use Rattle.std.proofs.Common.{◌++◌, length}
use Rattle.sf_sym.specs.Checked.Sets.{AreSame}
use Rattle.sf_sym.proofs.pairs.set_of.Given as goal

abbrev pub invariant-loop-p : goal.invariant-loop-p
invariant-loop-p l = AreSame l.list (l.set.keys ++ l.left)

abbrev pub decreases-loop-p : goal.decreases-loop-p
decreases-loop-p l = length l.left
