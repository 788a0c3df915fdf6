use Rattle.std.proofs.Common.{◌≡◌, ◌+◌, ◌≤◌, length}
use Rattle.sf_sym.specs.Pending.{existentials_in}
use Rattle.sf_rules.proofs.subtracting.existentials_in.Given as goal

abbrev pub invariant-loop-first : goal.invariant-loop-first
invariant-loop-first l = record {
  count : l.count + existentials_in l.left ≡ existentials_in l.fields;
  within : l.count + length l.left ≤ length l.fields;
}

abbrev pub decreases-loop-first : goal.decreases-loop-first
decreases-loop-first l = length l.left
