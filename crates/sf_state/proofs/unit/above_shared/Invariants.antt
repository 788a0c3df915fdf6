use Rattle.std.proofs.Common.{take}
use Rattle.sf_state.specs.Checked.FirstUnit.{IsOfOne, IsValueIn, Raises}
use Rattle.sf_state.proofs.unit.above_shared.Given as goal

-- it is raised above those so far
abbrev pub invariant-loop-values : goal.invariant-loop-values
invariant-loop-values l = Raises (IsOfOne (λ vs. IsValueIn vs.items) (take l.values-index l.shared)) l.unit l.raised
