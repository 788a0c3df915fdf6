use Rattle.std.proofs.Common.{◌∙◌, ap, ap₂, sym, subst}
use Rattle.std.specs.FinMap.{get}
use Rattle.sf_base.specs.HeapStore.{Splits}
use Rattle.sf_heap.specs.Cells.{Cells, heap_of}
use Rattle.sf_heap.specs.Checked.Entries.{map_of}
use Rattle.sf_heap.specs.Checked.Trees.{kept}
use Rattle.sf_heap.specs.declared.tree.Tree.{Tree}
use Rattle.sf_heap.proofs.Hands.{alone}
use Rattle.sf_heap.proofs.Splits.{AreApart-from_maps, Splits-merge, Splits-heap_of}
use Rattle.sf_heap.proofs.heap.Heap.join.Goals as goal

-- the two have no location in common
pub united-requires-clause-apart : goal.united-requires-clause-apart
united-requires-clause-apart c =
    let own = c.whole-own.ensures.same
    ∙ ap₂ (λ (h : Tree) (t : Tree). map_of (kept h t)) c.replace-hand.ensures.value c.replace.ensures.value ∙ c.self.view_is in
    let others = c.whole-others.ensures.same ∙ c.other.view_is in
    AreApart-from_maps _ _ _ _ own others c.requires

-- what they are united to has what is in the two
pub returns-clause-ok : goal.returns-clause-ok
returns-clause-ok c =
    let own = c.whole-own.ensures.same
    ∙ ap₂ (λ (h : Tree) (t : Tree). map_of (kept h t)) c.replace-hand.ensures.value c.replace.ensures.value ∙ c.self.view_is in
    let others = c.whole-others.ensures.same ∙ c.other.view_is in
    let union = Splits-merge _ _ _ _ _ own others c.requires c.united.ensures in
    let all = ap map_of (alone c.replace-hand.new.dest c.united.result c.replace-hand.ensures.after) in
    subst (λ (m : Cells). Splits (get m) (get c.args.self.now) (get c.args.other)) (sym all) union

pub returns-clause-heaps : goal.returns-clause-heaps
returns-clause-heaps c =
    let own = c.whole-own.ensures.same
    ∙ ap₂ (λ (h : Tree) (t : Tree). map_of (kept h t)) c.replace-hand.ensures.value c.replace.ensures.value ∙ c.self.view_is in
    let others = c.whole-others.ensures.same ∙ c.other.view_is in
    let union = Splits-merge _ _ _ _ _ own others c.requires c.united.ensures in
    let all = ap map_of (alone c.replace-hand.new.dest c.united.result c.replace-hand.ensures.after) in
    subst (λ (m : Cells). Splits (heap_of m) (heap_of c.args.self.now) (heap_of c.args.other)) (sym all)
    (Splits-heap_of _ _ _ union)
