use Rattle.sf_heap.proofs.Forks.{puts-absent}
use Rattle.sf_heap.proofs.tree.Tree.add.Goals as goal

-- it doesn't come back
pub returns : goal.returns
returns c = puts-absent _ _ c.put_in.result.0 _ c.requires.absent c.put_in.ensures
