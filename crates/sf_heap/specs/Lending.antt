-- What a heap ends as, where one of its cells was lent.
-- Lenses for borrowed parts: Jung and others, "RustBelt", 2018.
use Rattle.std.specs.Prelude.{ℕ, Option}
use Rattle.std.specs.Borrow.{LendsIf, MutBor, Fml}
use Rattle.std.specs.FinMap.{insert}
use Rattle.sf_heap.specs.Cells.{Cells, FieldValues}
use Rattle.sf_heap.specs.contracts.cell.Cell as cell
use Rattle.sf_heap.specs.contracts.heap.Heap as heap

-- the heap ends with the last cell that was written through r at that location, and as it was where r is none
abbrev pub LendsCell : MutBor Cells → ℕ → Option (MutBor (FieldValues)) → Fml
LendsCell h location r = LendsIf heap.the_row cell.the_row h r (insert h.now location) h.now
