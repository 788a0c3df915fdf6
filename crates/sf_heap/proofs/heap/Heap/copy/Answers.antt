use Rattle.std.proofs.Common.{◌∙◌}
use Rattle.sf_heap.proofs.Copies.{copied-count, copied-kept, copied-map}
use Rattle.sf_heap.proofs.heap.Heap.copy.Goals as goal

-- the copies are kept as what they are of is
pub invariant_of-result : goal.invariant_of-result
invariant_of-result c =
    let hand = c.self.inside.hand in
    let cells = c.self.inside.cells in
    let top = c.in_ok-hand.ensures.top in
    let is = c.in_ok-cells.ensures.cells in (
      copied-kept c.in_ok-hand.hand c.in_ok-cells.cells hand cells top is c.self.invariant.0,
      copied-count c.in_ok-hand.hand c.in_ok-cells.cells hand cells top is ∙ c.self.invariant.1,
    )

-- and are the same map
pub returns : goal.returns
returns c = copied-map c.in_ok-hand.hand c.in_ok-cells.cells c.self.inside.hand c.self.inside.cells
    c.in_ok-hand.ensures.top c.in_ok-cells.ensures.cells ∙ c.self.view_is
