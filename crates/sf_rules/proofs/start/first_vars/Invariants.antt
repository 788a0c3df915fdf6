use Rattle.std.proofs.Common.{◌≡◌}
use Rattle.sf_rules.specs.First.{symbols}
use Rattle.sf_rules.proofs.start.first_vars.Given as goal

abbrev pub invariant-loop-i : goal.invariant-loop-i
invariant-loop-i l = l.vars.items ≡ symbols 0 l.i
