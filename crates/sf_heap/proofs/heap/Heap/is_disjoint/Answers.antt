use Rattle.std.proofs.Common.{refl}
use Rattle.std.proofs.lemmas.Bool.{false≢true}
use Rattle.std.specs.FinMap.{get}
use Rattle.sf_heap.specs.Checked.Trees.{entries_of, kept, tops}
use Rattle.sf_heap.proofs.Clears.{clear-append, clear-back, clear-disjoint, clear-front, disjoint-clear}
use Rattle.sf_heap.proofs.heap.Heap.is_disjoint.Goals as goal

-- the cell in hand is at a location of this heap's
pub returns-then-not-top_misses : goal.returns-then-not-top_misses
returns-then-not-top_misses c =
    let hand = c.other.inside.hand in
    let cells = c.other.inside.cells in (
      (λ h. absurd (false≢true h)),
      (λ d. c.if-not-top_misses.ensures.1 (clear-front (get c.args.self.now) (tops hand) (entries_of cells)
          (clear-disjoint c.args.self.now c.args.other.now (kept hand cells) c.other.view_is d))),
    )

-- one of the others is, or none
pub returns : goal.returns
returns c =
    let f = get c.args.self.now in
    let hand = c.other.inside.hand in
    let cells = c.other.inside.cells in (
      (λ h. disjoint-clear c.args.self.now c.args.other.now (kept hand cells) c.other.view_is
          (clear-append f (tops hand) (entries_of cells) (c.if-not-top_misses.ensures.0 refl) (c.misses.ensures.0 h))),
      (λ d. c.misses.ensures.1 (clear-back f (tops hand) (entries_of cells)
          (clear-disjoint c.args.self.now c.args.other.now (kept hand cells) c.other.view_is d))),
    )
