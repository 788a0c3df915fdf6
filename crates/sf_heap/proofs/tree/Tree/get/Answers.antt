use Rattle.std.proofs.Common.{◌≡◌, ◌∙◌, ◌<◌, Some, ap, sym, subst, arith}
use Rattle.sf_heap.specs.Checked.Entries.{Rises, found}
use Rattle.sf_heap.specs.Checked.Trees.{entries_of}
use Rattle.sf_heap.specs.declared.tree.Node.{Node}
use Rattle.sf_heap.proofs.Forks.{Rises-left, Rises-right, found-here, found-left, found-right}
use Rattle.sf_heap.proofs.tree.Tree.get.Goals as goal

-- the fork has it
pub returns-then-at-deref : goal.returns-then-at-deref
returns-then-at-deref c =
    let n = c.in-Fork.node.value in
    let is = ap entries_of c.in-Fork.is in
    let same : c.args.at ≡ n.entry.at = c.if-at-deref.true ∙ ap (λ (m : Node). m.entry.at) c.deref.ensures in
    ap Some (ap (λ (m : Node). m.entry.cell) c.deref-then-at-deref.ensures)
    ∙ sym (found-here (entries_of n.below) n.entry (entries_of n.above) (subst Rises is c.loop-tree.invariant.rises) c.args.at same)
    ∙ sym (ap (found c.args.at) is) ∙ c.loop-tree.invariant.here

-- it is below
pub loop-tree-preserved-then-at-deref-2 : goal.loop-tree-preserved-then-at-deref-2
loop-tree-preserved-then-at-deref-2 c =
    let n = c.in-Fork.node.value in
    let is = ap entries_of c.in-Fork.is in
    let rises = subst Rises is c.loop-tree.invariant.rises in
    let less : c.args.at < n.entry.at = omega (arith, c.if-at-deref-2.true, ap (λ (m : Node). m.entry.at) c.deref-in-Fork.ensures) in
    rw c.deref-then-at-deref-2.ensures record {
      rises = Rises-left (entries_of n.below) n.entry (entries_of n.above) rises;
      here = sym (found-left (entries_of n.below) n.entry (entries_of n.above) rises c.args.at less) ∙ sym (ap (found c.args.at) is)
          ∙ c.loop-tree.invariant.here;
    }

-- or above
pub loop-tree-preserved : goal.loop-tree-preserved
loop-tree-preserved c =
    let n = c.in-Fork.node.value in
    let is = ap entries_of c.in-Fork.is in
    let rises = subst Rises is c.loop-tree.invariant.rises in
    let more : n.entry.at < c.args.at = omega (
      arith,
      c.if-at-deref.false,
      c.if-at-deref-2.false,
      ap (λ (m : Node). m.entry.at) c.deref.ensures,
      ap (λ (m : Node). m.entry.at) c.deref-in-Fork.ensures,
    ) in
    rw c.deref-else-at-deref-2.ensures record {
      rises = Rises-right (entries_of n.below) n.entry (entries_of n.above) rises;
      here = sym (found-right (entries_of n.below) n.entry (entries_of n.above) rises c.args.at more) ∙ sym (ap (found c.args.at) is)
          ∙ c.loop-tree.invariant.here;
    }
