use Rattle.std.proofs.Common.{◌≡◌, ◌∙◌, Box, None, ap, sym}
use Rattle.std.specs.declared.alloc.Global.{Global}
use Rattle.std.specs.FinMap.{get}
use Rattle.sf_base.proofs.Options.{none-holds, some-holds}
use Rattle.sf_heap.specs.Checked.Entries.{found}
use Rattle.sf_heap.specs.Checked.Trees.{entries_of, kept, IsTaken}
use Rattle.sf_heap.specs.declared.tree.Node.{Node}
use Rattle.sf_heap.proofs.Entries.{get-map_of}
use Rattle.sf_heap.proofs.Forks.{Rises-taken, found-more, found-none, map-put}
use Rattle.sf_heap.proofs.Keys.{at-same}
use Rattle.sf_heap.proofs.moves.brought.Goals as goal

-- the cell is taken in hand
pub returns-in-Some-clause-are_kept : goal.returns-in-Some-clause-are_kept
returns-in-Some-clause-are_kept c =
    let t = some-holds (λ (n : Box Node Global). IsTaken (entries_of c.whole-cells.result) c.args.at n.value.entry (entries_of c.take_out-taken.new.self))
    _ _ c.in-Some.is c.take_out-taken.ensures.taken in
    (Rises-taken _ _ _ t.more c.whole-cells.ensures.rises, found-none _ _ _ t.more)

pub returns-in-Some-clause-same : goal.returns-in-Some-clause-same
returns-in-Some-clause-same c =
    let t = some-holds (λ (n : Box Node Global). IsTaken (entries_of c.whole-cells.result) c.args.at n.value.entry (entries_of c.take_out-taken.new.self))
    _ _ c.in-Some.is c.take_out-taken.ensures.taken in
    sym (map-put _ _ _ t.more) ∙ c.whole-cells.ensures.same

pub returns-in-Some-clause-in_hand : goal.returns-in-Some-clause-in_hand
returns-in-Some-clause-in_hand c =
    let t = some-holds (λ (n : Box Node Global). IsTaken (entries_of c.whole-cells.result) c.args.at n.value.entry (entries_of c.take_out-taken.new.self))
    _ _ c.in-Some.is c.take_out-taken.ensures.taken in
    at-same c.args.at _ _ _ (sym t.at_is) ∙ sym (sym (get-map_of (kept c.args.hand c.args.cells) c.args.at)
    ∙ ap (λ m. get m c.args.at) (sym c.whole-cells.ensures.same) ∙ get-map_of (entries_of c.whole-cells.result) c.args.at
    ∙ found-more _ _ _ t.more c.args.at ∙ at-same c.args.at _ _ _ (sym t.at_is))

-- or there is none
pub returns-in-None-clause-in_hand : goal.returns-in-None-clause-in_hand
returns-in-None-clause-in_hand c =
    let none : found c.args.at (entries_of c.whole-cells.result) ≡ None = none-holds _ c.in-None.is c.take_out-taken.ensures.absent in
    sym (sym (get-map_of (kept c.args.hand c.args.cells) c.args.at)
    ∙ ap (λ m. get m c.args.at) (sym c.whole-cells.ensures.same) ∙ get-map_of (entries_of c.whole-cells.result) c.args.at ∙ none)
