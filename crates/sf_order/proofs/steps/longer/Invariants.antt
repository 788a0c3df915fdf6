use Rattle.std.proofs.Common.{All, take}
use Rattle.sf_order.specs.Checked.Ways.{IsNear}
use Rattle.sf_order.proofs.steps.longer.Given as goal

-- none of those so far is longer
abbrev pub invariant-loop-x : goal.invariant-loop-x
invariant-loop-x l = All (IsNear l.steps) (take l.x-index l.pairs)
