use Rattle.std.proofs.Common.{◌+◌, ◌*◌, ◌-◌, [], ◌∷◌, length, reverse}
use Rattle.std.specs.FinMap.{len}
use Rattle.sf_foot.specs.Checked.Walks.{TreesWalk, Walking}
use Rattle.sf_foot.proofs.walks.walk_tree.Given as goal

-- what was walked so far; the next root is the last
abbrev pub invariant-walk : goal.invariant-walk
invariant-walk l = Walking (TreesWalk l.heap l.left l.right (l.fn.root ∷ [])) (TreesWalk l.heap l.left l.right (reverse l.roots.items)) l.initial.found.items l.found.items

abbrev pub decreases-walk : goal.decreases-walk
decreases-walk l = 2 * (len l.heap - length l.found.items) + length l.roots.items
