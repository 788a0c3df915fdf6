use Rattle.std.proofs.Common.{◌≡◌, ◌++◌, ◌-◌}
use Rattle.sf_rules.specs.First.{nils}
use Rattle.sf_rules.proofs.start.with_nils.Given as goal

abbrev pub invariant-loop-i : goal.invariant-loop-i
invariant-loop-i l = l.vars.items ≡ l.fn.vars.items ++ nils l.from (l.i - l.from)
