use Rattle.std.proofs.Common.{◌≡◌, length}
use Rattle.sf_sym.specs.Numbers.{AreRising, numbers}
use Rattle.sf_search.specs.Strategy.{lowest, undecided_ends}
use Rattle.sf_search.proofs.choices.atoms.first_undecided.Given as goal

abbrev pub invariant-loop-first : goal.invariant-loop-first
invariant-loop-first l = record {
  same : lowest (undecided_ends l.state) l.state.atoms ≡ lowest (undecided_ends l.state) l.left;
  rising : AreRising (numbers l.left);
}

abbrev pub decreases-loop-first : goal.decreases-loop-first
decreases-loop-first l = length l.left
