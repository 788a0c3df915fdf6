-- What entries and trees of them end as, where a cell was lent.
-- Ordinary: what a reference points at, after it was lent and given back.
use Rattle.std.specs.Prelude.{Option, Some, None}
use Rattle.std.specs.Borrow.{Lends, LendsIf, MutBor, Fml}
use Rattle.sf_heap.specs.Cells.{FieldValues}
use Rattle.sf_heap.specs.declared.tree.Entry.{Entry}
use Rattle.sf_heap.specs.declared.tree.Tree.{Tree}
use Rattle.sf_heap.specs.declared.tree.Tree.TheVariants.{Empty, Fork'}
use Rattle.sf_heap.specs.contracts.cell.Cell as cell
use Rattle.sf_heap.specs.contracts.tree.Entry as entry
use Rattle.sf_heap.specs.contracts.tree.Tree as tree

-- the entry with another cell
abbrev pub other_cell : Entry → FieldValues → Entry
other_cell e w = record e { cell = w }

-- the cell on top of a tree
abbrev pub top_of : Tree → Option FieldValues
top_of Empty = None
top_of (Fork' height p e below above) = Some e.cell

-- the tree with another cell on top
abbrev pub top_set : Tree → FieldValues → Tree
top_set Empty w = Empty
top_set (Fork' height p e below above) w = Fork' height p (other_cell e w) below above

-- the entry ends with the last cell that was written through r
abbrev pub LendsIts : MutBor Entry → MutBor (FieldValues) → Fml
LendsIts e r = Lends entry.the_row cell.the_row e r (other_cell e.now)

-- the tree ends with that cell on top
abbrev pub LendsTop : MutBor Tree → Option (MutBor (FieldValues)) → Fml
LendsTop t r = LendsIf tree.the_row cell.the_row t r (top_set t.now) t.now
