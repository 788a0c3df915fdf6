-- The text of a state as it is written: a line for each variable, and then one for each cell.
-- Numbers are decimal, as The Open Group's "printf" prints them (2018).
use Rattle.std.specs.Prelude.{ℕ, suc, ◌++◌, Option, Some, None, List, [], ◌∷◌, codes, slice_index_or}
use Rattle.std.specs.Fmt.{signed_decimal}
use Rattle.sf_base.specs.declared.value.Value.{Value}
use Rattle.sf_base.specs.declared.value.Value.TheVariants.{Nil as nil, Int as int, Loc as loc}
use Rattle.sf_lines.specs.Lines.{Text}
use Rattle.sf_state.specs.Refused.{cell_name}

-- a value
abbrev pub value_text : Value → Text
value_text nil = codes "nil"
value_text (int i) = signed_decimal i
value_text (loc n) = cell_name n

-- the line of a variable
abbrev pub variable_line : (name : Text) → Value → Text
variable_line name value = name ++ codes " = " ++ value_text value ++ codes "\n"

-- the lines of these variables, the first of which has that number: one without a value is nil
abbrev pub variable_lines : (names : List Text) → (number : ℕ) → List Value → Text
variable_lines [] number values = []
variable_lines (name ∷ more) number values = variable_line name (slice_index_or values number nil)
    ++ variable_lines more (suc number) values

-- a field of a cell with its value
abbrev pub field_text : (name : Text) → Value → Text
field_text name value = codes " " ++ name ++ codes "=" ++ value_text value

-- these fields of a cell, the first of which has that number, in declared order: one without a
-- value is nil
abbrev pub field_texts : (names : List Text) → (number : ℕ) → List Value → Text
field_texts [] number values = []
field_texts (name ∷ more) number values = field_text name (slice_index_or values number nil)
    ++ field_texts more (suc number) values

-- the line of a cell, with all fields
abbrev pub cell_line : (fields : List Text) → (location : ℕ) → List Value → Text
cell_line fields location values = cell_name location ++ field_texts fields 0 values ++ codes "\n"

-- the values of a cell, none where it isn't there
abbrev pub values_or_none : Option (List Value) → List Value
values_or_none None = []
values_or_none (Some values) = values

-- the lines of the cells at these locations
abbrev pub cell_lines : (fields : List Text) → (cells : ℕ → Option (List Value)) → List ℕ → Text
cell_lines fields cells [] = []
cell_lines fields cells (l ∷ ls) = cell_line fields l (values_or_none (cells l)) ++ cell_lines fields cells ls

-- the text of a state: its variables in canonical order, and then the cells at these locations
abbrev pub state_text : (fields names : List Text) → (values : List Value) → (cells : ℕ → Option (List Value))
    → List ℕ → Text
state_text fields names values cells locations = variable_lines names 0 values ++ cell_lines fields cells locations
