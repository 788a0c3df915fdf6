use Rattle.std.proofs.Common.{◌∙◌, sym, ap}
use Rattle.std.specs.FinMap.{get}
use Rattle.sf_heap.proofs.Entries.{get-map_of}
use Rattle.sf_heap.proofs.Hands.{kept-hand, kept-others}
use Rattle.sf_heap.specs.Checked.Trees.{kept}
use Rattle.sf_heap.proofs.heap.Heap.get.Goals as goal

-- the cell in hand
pub returns-in-Some : goal.returns-in-Some
returns-in-Some c = sym (kept-hand c.self.inside.hand c.self.inside.cells c.args.at c.in-Some.cell.now (sym c.in-Some.ensures))
    ∙ sym (get-map_of (kept c.self.inside.hand c.self.inside.cells) c.args.at) ∙ ap (λ m. get m c.args.at) c.self.view_is

-- or one of the others
pub returns-in-None : goal.returns-in-None
returns-in-None c = c.get.ensures ∙ sym (kept-others c.self.inside.hand c.self.inside.cells c.args.at (sym c.in-None.ensures))
    ∙ sym (get-map_of (kept c.self.inside.hand c.self.inside.cells) c.args.at) ∙ ap (λ m. get m c.args.at) c.self.view_is
