-- A heap with finitely many cells, each with finitely many fields, and the heap of the definitions that it is.
-- Finite partial maps as heaps: Reynolds, "Separation Logic", 2002.
use Rattle.std.specs.Prelude.{ℕ, List, ◌↔◌, IsTrue, Contains, slice_index_or}
use Rattle.std.specs.FinMap.{FinMap, get, contains_key}
use Rattle.std.specs.Option.{option_map}
use Rattle.std.specs.Ordering.{nat_cmp}
use Rattle.sf_base.specs.declared.value.Value.{Value}
use Rattle.sf_base.specs.declared.value.Value.TheVariants.{Nil as nil}
use Rattle.sf_base.specs.HeapStore.{Apart, Cell, Heap}

-- the values of a cell's fields, by the fields' numbers
abbrev pub FieldValues : Type 0
FieldValues = List Value

-- the values of the cells' fields, by the cells' locations
abbrev pub Cells : Type 0
Cells = FinMap nat_cmp FieldValues

-- the cell with those values in its first fields, and nil in all others
abbrev pub cell_of : FieldValues → Cell
cell_of values field = slice_index_or values field nil

-- the heap of the definitions
abbrev pub heap_of : Cells → Heap
heap_of cells location = option_map cell_of (get cells location)

-- a cell is at that location
abbrev pub HasCell : Cells → ℕ → Type 0
HasCell cells location = IsTrue (contains_key cells location)

-- no location has a cell of both
abbrev pub AreDisjoint : Cells → Cells → Type 0
AreDisjoint one other = (location : ℕ) → Apart (get one location) (get other location)

-- the cells are at exactly those locations
abbrev pub AreAt : List ℕ → Cells → Type 0
AreAt locations cells = (location : ℕ) → HasCell cells location ↔ Contains locations location
