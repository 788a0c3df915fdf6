use Rattle.std.proofs.Common.{◌≡◌, ◌+◌, ◌<◌, ◌^◌, ◌++◌, length}
use Rattle.sf_rules.specs.Resources.{variables_from}
use Rattle.sf_rules.proofs.regions.add_variables.Given as goal

abbrev pub invariant-loop-rest : goal.invariant-loop-rest
invariant-loop-rest l = record {
  found : l.initial.found.items ++ variables_from l.r 0 l.names ≡ l.found.items ++ variables_from l.r l.next l.left;
  numbers : l.next + length l.left < 2 ^ 32;
}

abbrev pub decreases-loop-rest : goal.decreases-loop-rest
decreases-loop-rest l = length l.left
