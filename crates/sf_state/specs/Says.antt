-- What a line of a state's text says.
-- Ordinary: a format of lines, read leniently: "be liberal in what you accept", Postel, RFC 761
-- (1980).
use Rattle.std.specs.Prelude.{ℕ, zero, suc, ◌++◌, Bool, false, if◌then◌else◌, Option, Some, None, List, [], ◌∷◌, codes}
use Rattle.std.specs.Str.{bytes_eq}
use Rattle.sf_base.specs.declared.ids.FieldId.{FieldId}
use Rattle.sf_base.specs.declared.value.Value.{Value}
use Rattle.sf_lex.specs.Whole.{is_name}
use Rattle.sf_state.specs.declared.line.Entry.{Entry}
use Rattle.sf_state.specs.declared.line.Entry.TheVariants as entry
use Rattle.sf_state.specs.declared.fields.Fields.{Fields}
use Rattle.sf_state.specs.declared.fields.Fields.TheVariants as fields
use Rattle.sf_lines.specs.Lines.{Text, lines, only, split_once, words}
use Rattle.sf_state.specs.Words.{begins}
use Rattle.sf_state.specs.Names.{field_named, is_target, place_of}
use Rattle.sf_state.specs.Values.{location_from, value_from}

-- a name with the value that the word writes, where both are in order
abbrev pub named_value : Text → Option Value → Option (Text × Value)
named_value name None = None
named_value name (Some value) = if is_name name then Some (name, value) else None

-- the same of what is before and after `=`
abbrev pub named_value_in : Option (Text × Text) → Option (Text × Value)
named_value_in None = None
named_value_in (Some parts) = named_value parts.0 (value_from parts.1)

-- the name and the value that a word `field=value` has
abbrev pub setting_of : Text → Option (Text × Value)
setting_of word = named_value_in (split_once 61 word)

-- what a field's name and value say, once the field is looked up
abbrev pub set_field : (name : Text) → Value → Option FieldId → Fields
set_field name value None = fields.Unknown name
set_field name value (Some field) = fields.Are (record { field = field; value = value } ∷ [])

-- what a word says of the fields of a cell
abbrev pub field_said : (names : List Text) → Option (Text × Value) → Fields
field_said names None = fields.Bad
field_said names (Some s) = set_field s.0 s.1 (field_named names s.0)

-- what two parts of a line say of them together: a part that isn't in order comes before an unknown
-- name
abbrev pub both : Fields → Fields → Fields
both fields.Bad more = fields.Bad
both (fields.Unknown name) fields.Bad = fields.Bad
both (fields.Unknown name) (fields.Unknown other) = fields.Unknown name
both (fields.Unknown name) (fields.Are settings) = fields.Unknown name
both (fields.Are settings) fields.Bad = fields.Bad
both (fields.Are settings) (fields.Unknown name) = fields.Unknown name
both (fields.Are settings) (fields.Are more) = fields.Are (settings ++ more)

-- what words say of the fields of a cell
abbrev pub fields_said : (names : List Text) → List Text → Fields
fields_said names [] = fields.Are []
fields_said names (word ∷ more) = both (field_said names (setting_of word)) (fields_said names more)

-- a cell at that location
abbrev pub cell_with : ℕ → Fields → Entry
cell_with location fields.Bad = entry.Bad
cell_with location (fields.Unknown name) = entry.Unknown name
cell_with location (fields.Are settings) = entry.Cell location settings

-- a cell at the location that its first word writes
abbrev pub cell_said : (names : List Text) → Option ℕ → List Text → Entry
cell_said names None more = entry.Bad
cell_said names (Some location) more = cell_with location (fields_said names more)

-- a variable with a value, once its name is looked up
abbrev pub set_variable : (name : Text) → Value → Option ℕ → Entry
set_variable name value None = entry.Unknown name
set_variable name value (Some number) = entry.Variable number value

-- a variable with the value that the word writes
abbrev pub variable_with : (names : List Text) → (name : Text) → Option Value → Entry
variable_with names name None = entry.Bad
variable_with names name (Some value) = if is_target name then set_variable name value (place_of names name)
    else entry.Bad

-- the word before `=` with that after it, where each is one
abbrev pub assigned : (names : List Text) → (left right : Option Text) → Entry
assigned names None right = entry.Bad
assigned names (Some name) None = entry.Bad
assigned names (Some name) (Some word) = variable_with names name (value_from word)

-- what is before and after `=`
abbrev pub variable_said : (names : List Text) → Option (Text × Text) → Entry
variable_said names None = entry.Bad
variable_said names (Some parts) = assigned names (only (words parts.0)) (only (words parts.1))

-- what a line says that has these words: one without words, and a comment, nothing; one that begins
-- with `@` a cell; others a variable. The names are those of the fields and of the variables
abbrev pub said : (fields names : List Text) → Text → List Text → Entry
said fields names line [] = entry.Nothing
said fields names line (word ∷ more) =
    if begins 35 word then entry.Nothing
    else if begins 64 word then cell_said fields (location_from word) more
    else variable_said names (split_once 61 line)

-- the line `finished`
abbrev pub is_finished : Option Text → Bool
is_finished None = false
is_finished (Some word) = bytes_eq word (codes "finished")

-- what a line says before which there are so many: the first may be `finished`
abbrev pub says : (fields names : List Text) → (before : ℕ) → Text → Entry
says fields names zero line = if is_finished (only (words line)) then entry.Nothing
    else said fields names line (words line)
says fields names (suc k) line = said fields names line (words line)

-- what lines say before which there are so many
abbrev pub entries_from : (fields names : List Text) → (before : ℕ) → List Text → List Entry
entries_from fields names k [] = []
entries_from fields names k (line ∷ more) = says fields names k line ∷ entries_from fields names (suc k) more

-- what the lines of a text say
abbrev pub entries_of : (fields names : List Text) → Text → List Entry
entries_of fields names text = entries_from fields names 0 (lines text)
