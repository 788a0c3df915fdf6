use Rattle.std.proofs.Common.{◌≡◌, [], drop, take}
use Rattle.sf_state.specs.Refused.{set_again}
use Rattle.sf_state.proofs.given.set_again.Given as goal

abbrev pub invariant-loop-i : goal.invariant-loop-i
invariant-loop-i l = set_again [] l.settings ≡ set_again (take l.i l.settings) (drop l.i l.settings)
