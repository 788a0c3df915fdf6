use Rattle.sf_turns.proofs.Grown.{forks_in}
use Rattle.sf_turns.proofs.trees.+joined.Given as goal

abbrev pub decreases-joined : goal.decreases-joined
decreases-joined l = forks_in l.tree
