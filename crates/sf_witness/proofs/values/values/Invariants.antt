use Rattle.std.proofs.Common.{◌≡◌, take}
use Rattle.sf_witness.specs.WitnessState.{values}
use Rattle.sf_witness.proofs.values.values.Given as goal

abbrev pub invariant-loop-v : goal.invariant-loop-v
invariant-loop-v l = l.found.items ≡ values (take l.v-index l.vars)
