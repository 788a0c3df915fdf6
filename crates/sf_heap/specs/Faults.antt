-- What the refusal of a cell says.
-- An operation that hands its argument back where it fails: Strom and Yemini, "Typestate", 1986.
use Rattle.std.specs.Prelude.{Result, Ok, Err}
use Rattle.sf_heap.specs.Cells.{FieldValues}
use Rattle.sf_heap.specs.declared.heap.HeapFault.{HeapFault}
use Rattle.sf_heap.specs.declared.heap.HeapFault.TheVariants.{Present, OutOfMemory}

-- the refusal is that the location has a cell
abbrev pub IsPresent : Result (Unit {0}) HeapFault → Type 0
IsPresent (Ok u) = ⊥
IsPresent (Err (Present cell)) = Unit {0}
IsPresent (Err (OutOfMemory cell)) = ⊥

-- the cell that comes back
abbrev pub cell_in : HeapFault → FieldValues
cell_in (Present cell) = cell
cell_in (OutOfMemory cell) = cell
