use Rattle.std.proofs.Common.{◌≡◌, ◌++◌, drop, map}
use Rattle.sf_state.specs.Stated.{or_nil}
use Rattle.sf_state.proofs.state.values_or_nil.Given as goal

abbrev pub invariant-loop-value : goal.invariant-loop-value
invariant-loop-value l = map or_nil l.given ≡ l.values.items ++ map or_nil (drop l.value-index l.given)
