use Rattle.std.proofs.Common.{◌∙◌, sym, ap}
use Rattle.std.specs.FinMap.{len}
use Rattle.sf_heap.proofs.Hands.{kept-len}
use Rattle.sf_heap.proofs.heap.Heap.len.Goals as goal

-- as many entries as cells
pub returns : goal.returns
returns c = sym c.self.invariant.1 ∙ sym (kept-len c.self.inside.hand c.self.inside.cells c.self.invariant.0) ∙ ap len c.self.view_is
