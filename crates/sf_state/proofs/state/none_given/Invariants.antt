use Rattle.std.proofs.Common.{◌≡◌, drop, is_none}
use Rattle.std.specs.List.{list_all}
use Rattle.sf_state.proofs.state.none_given.Given as goal

abbrev pub invariant-loop-value : goal.invariant-loop-value
invariant-loop-value l = list_all is_none l.given ≡ list_all is_none (drop l.value-index l.given)
