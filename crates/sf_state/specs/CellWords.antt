-- The cell that words like those of a cell's line give.
-- Ordinary: a finite map as the list of its entries, each key at most once.
use Rattle.std.specs.Prelude.{ℕ, if◌then◌else◌, Option, Some, None, List, [], is_some, length}
use Rattle.sf_base.specs.declared.value.Value.{Value}
use Rattle.sf_lines.specs.Lines.{Text}
use Rattle.sf_state.specs.declared.fields.Fields.{Fields}
use Rattle.sf_state.specs.declared.fields.Fields.TheVariants.{Bad, Unknown, Are}
use Rattle.sf_state.specs.Refused.{cell_values, set_again}
use Rattle.sf_state.specs.Says.{fields_said}

-- the values of so many fields, of which some are set, each once; the others are nil
abbrev pub cell_of : (count : ℕ) → Fields → Option (List Value)
cell_of count Bad = None
cell_of count (Unknown name) = None
cell_of count (Are settings) = if is_some (set_again [] settings) then None else Some (cell_values count settings)

-- the values of a cell's fields as words `field=value` give them, None where a word isn't in order, names no field,
-- or gives one again
abbrev pub cell_from : (fields : List Text) → List Text → Option (List Value)
cell_from fields words = cell_of (length fields) (fields_said fields words)
