use Rattle.std.proofs.Common.{take}
use Rattle.sf_state.specs.Checked.FirstUnit.{IsInCell, IsOfOne, Raises}
use Rattle.sf_state.proofs.unit.above_cells.Given as goal

-- it is raised above those so far
abbrev pub invariant-loop-location : goal.invariant-loop-location
invariant-loop-location l = Raises (IsOfOne (IsInCell l.heap) (take l.location-index l.at)) l.unit l.raised
