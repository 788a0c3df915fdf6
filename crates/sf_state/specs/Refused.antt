-- What is given by the lines of a text, and when a line is refused after those before it.
-- Ordinary: a finite map as the list of its entries, each key at most once.
use Rattle.std.specs.Prelude.{ℕ, ◌+◌, ◌==◌, ◌++◌, Bool, true, false, nat_lt, if◌then◌else◌, Option, Some, None, List, [], ◌∷◌, codes, decimal, is_some, length, replicate, slice_index_or, slice_set}
use Rattle.std.specs.List.{count_by, list_any}
use Rattle.std.specs.Option.{option_or}
use Rattle.sf_base.specs.declared.ids.FieldId.{FieldId}
use Rattle.sf_base.specs.declared.limits.TheConstants.{STATE_CELLS}
use Rattle.sf_base.specs.declared.value.Value.{Value}
use Rattle.sf_base.specs.declared.value.Value.TheVariants.{Nil as nil}
use Rattle.sf_state.specs.declared.line.Entry.{Entry}
use Rattle.sf_state.specs.declared.line.Entry.TheVariants.{Nothing, Bad, Unknown, Variable, Cell}
use Rattle.sf_state.specs.declared.fault.StartFault.{StartFault}
use Rattle.sf_state.specs.declared.fault.StartFault.TheVariants as fault
use Rattle.sf_state.specs.declared.fields.Setting.{Setting}
use Rattle.sf_lines.specs.Lines.{Text}

-- the value that a line gives to the variable of that number
abbrev pub value_in : ℕ → Entry → Option Value
value_in number (Variable k value) = if k == number then Some value else None
value_in number Nothing = None
value_in number Bad = None
value_in number (Unknown name) = None
value_in number (Cell location settings) = None

-- the first value that lines give to it
abbrev pub value_given : List Entry → ℕ → Option Value
value_given [] number = None
value_given (e ∷ es) number = option_or (value_in number e) (value_given es number)

-- the fields that a line gives to the cell at that location
abbrev pub cell_in : ℕ → Entry → Option (List Setting)
cell_in location (Cell at settings) = if at == location then Some settings else None
cell_in location Nothing = None
cell_in location Bad = None
cell_in location (Unknown name) = None
cell_in location (Variable k value) = None

-- the first fields that lines give to it
abbrev pub cell_given : List Entry → ℕ → Option (List Setting)
cell_given [] location = None
cell_given (e ∷ es) location = option_or (cell_in location e) (cell_given es location)

-- whether a line is a cell
abbrev pub is_cell : Entry → Bool
is_cell (Cell at settings) = true
is_cell Nothing = false
is_cell Bad = false
is_cell (Unknown name) = false
is_cell (Variable k value) = false

-- how many lines are cells
abbrev pub cell_count : List Entry → ℕ
cell_count es = count_by is_cell es

-- whether one of these sets the field
abbrev pub is_set : List Setting → FieldId → Bool
is_set settings field = list_any (λ s. s.field.0 == field.0) settings

-- the first field that is set again after these
abbrev pub set_again : (before settings : List Setting) → Option FieldId
set_again before [] = None
set_again before (s ∷ more) = if is_set before s.field then Some s.field else set_again (before ++ s ∷ []) more

-- the values of a cell's fields once these are set
abbrev pub values_after : List Value → List Setting → List Value
values_after values [] = values
values_after values (s ∷ more) = values_after (slice_set values s.field.0 s.value) more

-- the values of the fields of a cell of which these are set: the others are nil
abbrev pub cell_values : (count : ℕ) → List Setting → List Value
cell_values count settings = values_after (replicate count nil) settings

-- the name of that number
abbrev pub name_at : List Text → ℕ → Text
name_at names number = slice_index_or names number []

-- the name of the cell at a location
abbrev pub cell_name : ℕ → Text
cell_name location = codes "@" ++ decimal location

-- why a cell is refused that is new, once it is known which of its fields is set again
abbrev pub cell_refusal : (fields : List Text) → (before : List Entry) → Option FieldId → Option StartFault
cell_refusal fields before (Some field) = Some (fault.Twice (name_at fields field.0))
cell_refusal fields before None = if nat_lt (cell_count before) STATE_CELLS then None else Some fault.TooLong

-- why a line is refused after those before it: it isn't in order, names what isn't there, gives
-- something again, or is one cell too many
abbrev pub refusal : (fields names : List Text) → (before : List Entry) → Entry → Option StartFault
refusal fields names before Nothing = None
refusal fields names before Bad = Some (fault.BadLine (length before + 1))
refusal fields names before (Unknown name) = Some (fault.Unknown name)
refusal fields names before (Variable k value) = if is_some (value_given before k)
    then Some (fault.Twice (name_at names k)) else None
refusal fields names before (Cell location settings) = if is_some (cell_given before location)
    then Some (fault.Twice (cell_name location)) else cell_refusal fields before (set_again [] settings)

-- why the first line that is refused is refused, after these
abbrev pub first_refusal : (fields names : List Text) → (before entries : List Entry) → Option StartFault
first_refusal fields names before [] = None
first_refusal fields names before (e ∷ es) =
    option_or (refusal fields names before e) (first_refusal fields names (before ++ e ∷ []) es)
