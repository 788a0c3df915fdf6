use Rattle.std.proofs.Common.{◌≡◌, length}
use Rattle.sf_search.specs.Strategy.{lower, lowest, undecided_ends}
use Rattle.sf_search.proofs.choices.atoms.lowest_undecided_of.Given as goal

abbrev pub invariant-loop-first : goal.invariant-loop-first
invariant-loop-first l =
    lowest (undecided_ends l.state) l.atoms ≡ lower l.best (lowest (undecided_ends l.state) l.left)

abbrev pub decreases-loop-first : goal.decreases-loop-first
decreases-loop-first l = length l.left
