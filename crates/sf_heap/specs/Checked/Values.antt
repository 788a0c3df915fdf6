-- The values of a cell, which keeps one alone in another way than many.
-- Ordinary: a list, of which the commonest case has a form of its own.
use Rattle.std.specs.Prelude.{[], ◌∷◌}
use Rattle.sf_heap.specs.Cells.{FieldValues}
use Rattle.sf_heap.specs.declared.cell.Values.{Values}
use Rattle.sf_heap.specs.declared.cell.Values.TheVariants.{One, Many}

-- the values in order of the fields' numbers
abbrev pub values_of : Values → FieldValues
values_of (One value) = value ∷ []
values_of (Many values) = values.items
