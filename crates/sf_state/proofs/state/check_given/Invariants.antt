use Rattle.std.proofs.Common.{◌≡◌, drop}
use Rattle.sf_state.specs.Stated.{missing_from}
use Rattle.sf_state.proofs.state.check_given.Given as goal

abbrev pub invariant-loop-i : goal.invariant-loop-i
invariant-loop-i l = missing_from l.names 0 l.given ≡ missing_from l.names l.i (drop l.i l.given)
