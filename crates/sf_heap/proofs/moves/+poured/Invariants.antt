use Rattle.std.proofs.Common.{length}
use Rattle.sf_heap.specs.Checked.Trees.{entries_of}
use Rattle.sf_heap.proofs.moves.+poured.Given as goal

-- how many cells the tree has
abbrev pub decreases-poured : goal.decreases-poured
decreases-poured l = length (entries_of l.from)
