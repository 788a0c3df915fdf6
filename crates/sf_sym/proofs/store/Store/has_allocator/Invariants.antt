use Rattle.std.proofs.Common.{◌≡◌, length}
use Rattle.std.specs.List.{list_any}
use Rattle.sf_sym.specs.Checked.Keeping.{are_allocated, row_beside}
use Rattle.sf_sym.specs.Checked.Wanted.{all_rows}
use Rattle.sf_sym.proofs.store.Store.has_allocator.Given as goal

abbrev pub invariant-loop-row : goal.invariant-loop-row
invariant-loop-row l =
    list_any (row_beside l.self.apart l.t l.except) l.left ≡ are_allocated l.self.apart (all_rows l.self) l.t l.except

abbrev pub decreases-loop-row : goal.decreases-loop-row
decreases-loop-row l = length l.left
