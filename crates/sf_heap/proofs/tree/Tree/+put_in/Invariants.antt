use Rattle.std.proofs.Common.{length}
use Rattle.sf_heap.specs.Checked.Trees.{entries_of}
use Rattle.sf_heap.proofs.tree.Tree.+put_in.Given as goal

-- how many cells the tree has
abbrev pub decreases-put_in : goal.decreases-put_in
decreases-put_in l = length (entries_of l.self.now)
