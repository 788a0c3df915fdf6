use Rattle.std.proofs.Common.{◌≡◌, ◌∙◌, Box, None, Some, ap, ap₂, length, sym, arith}
use Rattle.std.specs.declared.alloc.Global.{Global}
use Rattle.std.specs.FinMap.{get, remove}
use Rattle.sf_base.proofs.Options.{none-holds, some-holds}
use Rattle.sf_heap.specs.Checked.Entries.{found, map_of}
use Rattle.sf_heap.specs.Checked.Trees.{entries_of, kept, IsTaken}
use Rattle.sf_heap.specs.declared.tree.Node.{Node}
use Rattle.sf_heap.specs.declared.tree.Tree.{Tree}
use Rattle.sf_heap.proofs.Entries.{get-map_of}
use Rattle.sf_heap.proofs.Forks.{Rises-taken, found-more, length-more, map-taken}
use Rattle.sf_heap.proofs.Hands.{alone, alone_kept}
use Rattle.sf_heap.proofs.Keys.{at-same, remove-absent}
use Rattle.sf_heap.proofs.heap.Heap.take.Goals as goal

-- there is none, and so nothing to take away
pub returns-in-None-clause-value : goal.returns-in-None-clause-value
returns-in-None-clause-value c =
    let own = c.whole-cells.ensures.same
    ∙ ap₂ (λ (h : Tree) (t : Tree). map_of (kept h t)) c.replace-hand.ensures.value c.replace-cells.ensures.value ∙ c.self.view_is in
    let none : found c.args.at (entries_of c.whole-cells.result) ≡ None = none-holds _ c.in-None.is c.take_out-taken.ensures.absent in
    sym (ap (λ m. get m c.args.at) (sym own) ∙ get-map_of (entries_of c.whole-cells.result) c.args.at ∙ none)

pub returns-in-None-clause-rest : goal.returns-in-None-clause-rest
returns-in-None-clause-rest c =
    let own = c.whole-cells.ensures.same
    ∙ ap₂ (λ (h : Tree) (t : Tree). map_of (kept h t)) c.replace-hand.ensures.value c.replace-cells.ensures.value ∙ c.self.view_is in
    let none : found c.args.at (entries_of c.whole-cells.result) ≡ None = none-holds _ c.in-None.is c.take_out-taken.ensures.absent in
    let same : entries_of c.take_out-taken.new.self ≡ entries_of c.whole-cells.result = none-holds _ c.in-None.is c.take_out-taken.ensures.same in
    ap map_of (alone c.replace-hand.new.dest c.take_out-taken.new.self c.replace-hand.ensures.after ∙ same) ∙ own
    ∙ sym (remove-absent c.args.self.now c.args.at
    (ap (λ m. get m c.args.at) (sym own) ∙ get-map_of (entries_of c.whole-cells.result) c.args.at ∙ none))

-- the others stay in order, one less
pub invariant_of-self : goal.invariant_of-self
invariant_of-self c =
    let t = some-holds (λ (n : Box Node Global). IsTaken (entries_of c.whole-cells.result) c.args.at n.value.entry (entries_of c.take_out-taken.new.self))
    _ _ c.in-Some.is c.take_out-taken.ensures.taken in
    let cells = c.take_out-taken.new.self in (
      alone_kept c.replace-hand.new.dest cells c.replace-hand.ensures.after (Rises-taken _ _ _ t.more c.whole-cells.ensures.rises),
      omega (
        arith,
        ap length (alone c.replace-hand.new.dest cells c.replace-hand.ensures.after),
        length-more _ _ _ t.more,
        c.whole-cells.ensures.size,
        ap₂ (λ (h : Tree) (t : Tree). length (kept h t)) c.replace-hand.ensures.value c.replace-cells.ensures.value,
        c.self.invariant.1,
      ),
    )

-- the cell that was found
pub returns-in-Some-clause-value : goal.returns-in-Some-clause-value
returns-in-Some-clause-value c =
    let own = c.whole-cells.ensures.same
    ∙ ap₂ (λ (h : Tree) (t : Tree). map_of (kept h t)) c.replace-hand.ensures.value c.replace-cells.ensures.value ∙ c.self.view_is in
    let t = some-holds (λ (n : Box Node Global). IsTaken (entries_of c.whole-cells.result) c.args.at n.value.entry (entries_of c.take_out-taken.new.self))
    _ _ c.in-Some.is c.take_out-taken.ensures.taken in
    ap Some c.into_cell.ensures
    ∙ sym (ap (λ m. get m c.args.at) (sym own) ∙ get-map_of (entries_of c.whole-cells.result) c.args.at
    ∙ found-more _ _ _ t.more c.args.at ∙ at-same c.args.at _ _ _ (sym t.at_is))

pub returns-in-Some-clause-rest : goal.returns-in-Some-clause-rest
returns-in-Some-clause-rest c =
    let own = c.whole-cells.ensures.same
    ∙ ap₂ (λ (h : Tree) (t : Tree). map_of (kept h t)) c.replace-hand.ensures.value c.replace-cells.ensures.value ∙ c.self.view_is in
    let t = some-holds (λ (n : Box Node Global). IsTaken (entries_of c.whole-cells.result) c.args.at n.value.entry (entries_of c.take_out-taken.new.self))
    _ _ c.in-Some.is c.take_out-taken.ensures.taken in
    ap map_of (alone c.replace-hand.new.dest c.take_out-taken.new.self c.replace-hand.ensures.after)
    ∙ map-taken _ _ _ t.more ∙ ap₂ (λ m k. remove m k) own t.at_is
