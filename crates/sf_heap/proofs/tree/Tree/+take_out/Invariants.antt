use Rattle.std.proofs.Common.{length}
use Rattle.sf_heap.specs.Checked.Trees.{entries_of}
use Rattle.sf_heap.proofs.tree.Tree.+take_out.Given as goal

-- how many cells the tree has
abbrev pub decreases-take_out : goal.decreases-take_out
decreases-take_out l = length (entries_of l.self.now)
