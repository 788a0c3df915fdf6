use Rattle.std.proofs.Common.{◌-◌, length}
use Rattle.std.specs.FinMap.{len}
use Rattle.sf_foot.specs.Checked.Walks.{SegmentWalk, Walking}
use Rattle.sf_foot.proofs.walks.walk_segment.Given as goal

-- what was walked so far
abbrev pub invariant-walk : goal.invariant-walk
invariant-walk l = Walking (SegmentWalk l.heap l.next l.to l.fn.from) (SegmentWalk l.heap l.next l.to l.at) l.initial.found.items l.found.items

abbrev pub decreases-walk : goal.decreases-walk
decreases-walk l = len l.heap - length l.found.items
