use Rattle.std.proofs.Common.{◌∙◌, ap, ap₂, is_some, length, subst, sym, arith}
use Rattle.std.proofs.lemmas.Bool.{false≢true}
use Rattle.std.specs.FinMap.{get, insert}
use Rattle.sf_heap.specs.Cells.{FieldValues}
use Rattle.sf_heap.specs.Checked.Entries.{found, map_of}
use Rattle.sf_heap.specs.Checked.Trees.{entries_of, kept, IsMore, Puts}
use Rattle.sf_heap.specs.declared.tree.Entry.{Entry}
use Rattle.sf_heap.specs.declared.tree.Node.{Node}
use Rattle.sf_heap.specs.declared.tree.Tree.{Tree}
use Rattle.sf_heap.proofs.Entries.{get-map_of}
use Rattle.sf_heap.proofs.Forks.{Rises-put, found-none, length-more, map-put}
use Rattle.sf_heap.proofs.Hands.{alone, alone_kept}
use Rattle.sf_heap.proofs.heap.Heap.put.Goals as goal

-- the location has a cell
pub returns-in-Some-back-clause-present : goal.returns-in-Some-back-clause-present
returns-in-Some-back-clause-present c =
    let own = c.whole-cells.ensures.same
    ∙ ap₂ (λ (h : Tree) (t : Tree). map_of (kept h t)) c.replace-hand.ensures.value c.replace-cells.ensures.value ∙ c.self.view_is in
    let at_is = ap (λ (m : Node). m.entry.at) c.in-Ok.ensures.ok ∙ ap (λ (e : Entry). e.at) c.new.ensures in
    let k = subst (λ b. Puts (entries_of c.whole-cells.result) c.in-Ok.node.value.entry b (entries_of c.put_in-back.new.self))
    c.in-Some-back.is c.put_in-back.ensures in
    let there = ap is_some (sym (ap (λ k. found k (entries_of c.whole-cells.result)) at_is
    ∙ sym (get-map_of (entries_of c.whole-cells.result) c.args.at) ∙ ap (λ m. get m c.args.at) own)) ∙ k.there in
    ((λ _. there), (λ _. tt))

-- or it has none
pub returns-clause-present : goal.returns-clause-present
returns-clause-present c =
    let own = c.whole-cells.ensures.same
    ∙ ap₂ (λ (h : Tree) (t : Tree). map_of (kept h t)) c.replace-hand.ensures.value c.replace-cells.ensures.value ∙ c.self.view_is in
    let at_is = ap (λ (m : Node). m.entry.at) c.in-Ok.ensures.ok ∙ ap (λ (e : Entry). e.at) c.new.ensures in
    let more : IsMore (entries_of c.whole-cells.result) c.in-Ok.node.value.entry (entries_of c.put_in-back.new.self) =
    subst (λ b. Puts (entries_of c.whole-cells.result) c.in-Ok.node.value.entry b (entries_of c.put_in-back.new.self))
    c.in_default-back.is c.put_in-back.ensures in
    let none = sym (ap (λ k. found k (entries_of c.whole-cells.result)) at_is
    ∙ sym (get-map_of (entries_of c.whole-cells.result) c.args.at) ∙ ap (λ m. get m c.args.at) own) ∙ found-none _ _ _ more in
    ((λ no. absurd no), (λ has. false≢true (sym (ap is_some none) ∙ has)))

-- the cells with the new one are in order, one more
pub invariant_of-self-2 : goal.invariant_of-self-2
invariant_of-self-2 c =
    let cells = c.put_in-back.new.self in
    let more : IsMore (entries_of c.whole-cells.result) c.in-Ok.node.value.entry (entries_of cells) =
    subst (λ b. Puts (entries_of c.whole-cells.result) c.in-Ok.node.value.entry b (entries_of c.put_in-back.new.self))
    c.in_default-back.is c.put_in-back.ensures in (
      alone_kept c.replace-hand.new.dest cells c.replace-hand.ensures.after (Rises-put _ _ _ more c.whole-cells.ensures.rises),
      omega (
        arith,
        ap length (alone c.replace-hand.new.dest cells c.replace-hand.ensures.after),
        length-more _ _ _ more,
        c.whole-cells.ensures.size,
        ap₂ (λ (h : Tree) (t : Tree). length (kept h t)) c.replace-hand.ensures.value c.replace-cells.ensures.value,
        c.self.invariant.1,
        c.in-Some.ensures.1,
      ),
    )

-- and are the map with the new one
pub returns-clause-ok : goal.returns-clause-ok
returns-clause-ok c =
    let more : IsMore (entries_of c.whole-cells.result) c.in-Ok.node.value.entry (entries_of c.put_in-back.new.self) =
    subst (λ b. Puts (entries_of c.whole-cells.result) c.in-Ok.node.value.entry b (entries_of c.put_in-back.new.self))
    c.in_default-back.is c.put_in-back.ensures in
    let own = c.whole-cells.ensures.same
    ∙ ap₂ (λ (h : Tree) (t : Tree). map_of (kept h t)) c.replace-hand.ensures.value c.replace-cells.ensures.value ∙ c.self.view_is in
    let at_is = ap (λ (m : Node). m.entry.at) c.in-Ok.ensures.ok ∙ ap (λ (e : Entry). e.at) c.new.ensures in
    let cell_is = ap (λ (m : Node). m.entry.cell) c.in-Ok.ensures.ok ∙ ap (λ (e : Entry). e.cell) c.new.ensures in
    ap map_of (alone c.replace-hand.new.dest c.put_in-back.new.self c.replace-hand.ensures.after) ∙ map-put _ _ _ more
    ∙ ap₂ (λ m k. insert m k c.in-Ok.node.value.entry.cell) own at_is
    ∙ ap (λ (w : FieldValues). insert c.args.self.now c.args.at w) cell_is
