use Rattle.std.proofs.Common.{◌∙◌, ap, ap₂, sym, subst}
use Rattle.std.specs.FinMap.{get}
use Rattle.sf_base.specs.HeapStore.{Splits}
use Rattle.sf_heap.specs.Cells.{Cells, heap_of}
use Rattle.sf_heap.specs.Checked.Entries.{map_of}
use Rattle.sf_heap.specs.Checked.Trees.{entries_of, kept}
use Rattle.sf_heap.specs.declared.tree.Tree.{Tree}
use Rattle.sf_heap.proofs.Hands.{alone}
use Rattle.sf_heap.proofs.Parts.{there-from_map, Splits-parting, AreAt-parting}
use Rattle.sf_heap.proofs.Splits.{Splits-heap_of}
use Rattle.sf_heap.proofs.heap.Heap.part_off.Goals as goal

-- each wanted location has a cell
pub parted-part-requires-clause-there : goal.parted-part-requires-clause-there
parted-part-requires-clause-there c =
    let own = c.whole-own.ensures.same
    ∙ ap₂ (λ (h : Tree) (t : Tree). map_of (kept h t)) c.replace-hand.ensures.value c.replace.ensures.value ∙ c.self.view_is in
    there-from_map _ _ _ _ own c.as_slice.ensures.value c.requires

-- the two parts have what was in the one
pub returns-clause-parts : goal.returns-clause-parts
returns-clause-parts c =
    let own = c.whole-own.ensures.same
    ∙ ap₂ (λ (h : Tree) (t : Tree). map_of (kept h t)) c.replace-hand.ensures.value c.replace.ensures.value ∙ c.self.view_is in
    let union = Splits-parting _ _ _ _ _ own c.parted-part.ensures in
    let rest = ap map_of (alone c.replace-hand.new.dest c.parted-part.result.1 c.replace-hand.ensures.after) in
    subst (λ (m : Cells). Splits (get c.args.self.now) (get (map_of (entries_of c.parted-part.result.0))) (get m)) (sym rest) union

pub returns-clause-heaps : goal.returns-clause-heaps
returns-clause-heaps c =
    let own = c.whole-own.ensures.same
    ∙ ap₂ (λ (h : Tree) (t : Tree). map_of (kept h t)) c.replace-hand.ensures.value c.replace.ensures.value ∙ c.self.view_is in
    let union = Splits-parting _ _ _ _ _ own c.parted-part.ensures in
    let rest = ap map_of (alone c.replace-hand.new.dest c.parted-part.result.1 c.replace-hand.ensures.after) in
    subst (λ (m : Cells). Splits (heap_of c.args.self.now) (heap_of (map_of (entries_of c.parted-part.result.0))) (heap_of m)) (sym rest)
    (Splits-heap_of _ _ _ union)

-- the first of them has the wanted ones
pub returns-clause-locations : goal.returns-clause-locations
returns-clause-locations c = AreAt-parting _ _ _ _ _ c.parted-part.ensures c.as_slice.ensures.value
