use Rattle.std.proofs.Common.{◌≡◌}
use Rattle.sf_heap.specs.Checked.Entries.{Rises, found}
use Rattle.sf_heap.specs.Checked.Trees.{entries_of}
use Rattle.sf_heap.proofs.tree.Tree.get.Given as goal

-- the cell is looked for in this tree
abbrev pub invariant-loop-tree : goal.invariant-loop-tree
invariant-loop-tree l = record {
  rises : Rises (entries_of l.tree);
  here : found l.at (entries_of l.tree) ≡ found l.at (entries_of l.self);
}
