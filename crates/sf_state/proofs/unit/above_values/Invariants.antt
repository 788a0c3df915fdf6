use Rattle.std.proofs.Common.{take}
use Rattle.sf_state.specs.Checked.FirstUnit.{IsLocation, IsOfOne, Raises}
use Rattle.sf_state.proofs.unit.above_values.Given as goal

-- it is raised above those so far
abbrev pub invariant-loop-value : goal.invariant-loop-value
invariant-loop-value l = Raises (IsOfOne IsLocation (take l.value-index l.values)) l.unit l.raised
