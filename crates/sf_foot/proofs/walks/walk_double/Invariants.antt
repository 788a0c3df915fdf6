use Rattle.std.proofs.Common.{◌-◌, length}
use Rattle.std.specs.FinMap.{len}
use Rattle.sf_foot.specs.Checked.Walks.{DoubleWalk, Walking}
use Rattle.sf_foot.proofs.walks.walk_double.Given as goal

-- what was walked so far
abbrev pub invariant-walk : goal.invariant-walk
invariant-walk l = Walking
    (DoubleWalk l.heap l.next l.back l.ends.last l.ends.to l.ends.before l.ends.from)
    (DoubleWalk l.heap l.next l.back l.ends.last l.ends.to l.before l.at) l.initial.found.items l.found.items

abbrev pub decreases-walk : goal.decreases-walk
decreases-walk l = len l.heap - length l.found.items
