use Rattle.std.proofs.Common.{◌≡◌, ◌+◌, ◌<◌, ◌^◌, ◌++◌, length}
use Rattle.sf_sym.specs.Variables.{fresh_for}
use Rattle.sf_sym.proofs.vars.fresh_for.Given as goal

abbrev pub invariant-loop-first : goal.invariant-loop-first
invariant-loop-first l = record {
  set : fresh_for l.from l.xs ≡ l.set.items ++ fresh_for l.next l.left;
  numbers : l.next + length l.left < 2 ^ 32;
}

abbrev pub decreases-loop-first : goal.decreases-loop-first
decreases-loop-first l = length l.left
