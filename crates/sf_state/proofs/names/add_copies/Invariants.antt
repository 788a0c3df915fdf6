use Rattle.std.proofs.Common.{◌≡◌, ◌++◌, drop}
use Rattle.sf_state.proofs.names.add_copies.Given as goal

abbrev pub invariant-loop-name : goal.invariant-loop-name
invariant-loop-name l = l.fn.to.items ++ l.names ≡ l.to.items ++ drop l.name-index l.names
