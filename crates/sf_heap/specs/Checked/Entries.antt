-- The entries of a heap: the map that they are, and their order.
-- Ordinary: a finite map as its list of entries, increasing by key.
use Rattle.std.specs.Prelude.{◌<◌, ℕ, List, [], ◌∷◌, map, Option}
use Rattle.std.specs.FinMap.{find, from_entries}
use Rattle.std.specs.Ordering.{nat_cmp}
use Rattle.sf_heap.specs.Cells.{Cells, FieldValues}
use Rattle.sf_heap.specs.declared.tree.Entry.{Entry}

-- the locations with the values of their cells' fields
abbrev pub cells_of : List Entry → List (ℕ × FieldValues)
cells_of entries = map (λ e. (e.at, e.cell)) entries

-- the values of the first cell at a location
abbrev pub found : ℕ → List Entry → Option FieldValues
found location entries = find nat_cmp location (cells_of entries)

-- the finite map that they are
abbrev pub map_of : List Entry → Cells
map_of entries = from_entries (cells_of entries)

-- each location is above that one
abbrev pub AllAbove : ℕ → List Entry → Type 0
AllAbove at [] = Unit {0}
AllAbove at (e ∷ es) = (at < e.at) × AllAbove at es

-- each location is below that one
abbrev pub AllBelow : ℕ → List Entry → Type 0
AllBelow at [] = Unit {0}
AllBelow at (e ∷ es) = (e.at < at) × AllBelow at es

-- each location is below those after it
abbrev pub Rises : List Entry → Type 0
Rises [] = Unit {0}
Rises (e ∷ es) = AllAbove e.at es × Rises es

-- the locations of entries
abbrev pub places : List Entry → List ℕ
places entries = map (λ e. e.at) entries
