use Rattle.std.proofs.Common.{◌≤◌, take}
use Rattle.sf_sym.specs.Checked.Above.{ConjunctsBelow}
use Rattle.sf_sym.proofs.above.+bounds.Given as goal

abbrev pub invariant-above_conjuncts-loop-c : goal.invariant-above_conjuncts-loop-c
invariant-above_conjuncts-loop-c l = record {
  least : l.initial.least ≤ l.above;
  below : ConjunctsBelow l.above (take l.c-index l.cs);
}
