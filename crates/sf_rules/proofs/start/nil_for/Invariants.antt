use Rattle.std.proofs.Common.{◌≡◌, take}
use Rattle.sf_rules.specs.First.{nil_for}
use Rattle.sf_rules.proofs.start.nil_for.Given as goal

abbrev pub invariant-loop-x : goal.invariant-loop-x
invariant-loop-x l = l.set.items ≡ nil_for (take l.x-index l.xs)
