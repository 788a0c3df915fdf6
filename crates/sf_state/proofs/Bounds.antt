-- Locations that a text gives are below 2^62.
-- Names: `small-LAW`.
use Rattle.std.proofs.Common.{◌≡◌, ◌==◌, ◌<◌, ◌^◌, ◌&&◌, ℕ, zero, suc, Bool, true, false, cond, List, [], ◌∷◌, ◌++◌, Option, Some, None, refl, subst}
use Rattle.std.specs.Prelude.{nat_le, nat_lt}
use Rattle.std.specs.Option.{option_map, option_or}
use Rattle.std.specs.Str.Parse.{digits_value}
use Rattle.std.proofs.lemmas.Bool.{eqb-true, ltb-true}
use Rattle.sf_base.specs.declared.ids.FieldId.{FieldId}
use Rattle.sf_base.specs.declared.limits.TheConstants.{LOCATIONS}
use Rattle.sf_base.specs.declared.value.Value.{Value}
use Rattle.sf_base.specs.declared.value.Value.TheVariants.{Nil as nil, Int as int, Loc as loc}
use Rattle.sf_base.proofs.Bools.{and-right}
use Rattle.sf_lex.specs.Lexeme.{is_digit, is_some_of}
use Rattle.sf_lex.specs.Whole.{is_name, number_of}
use Rattle.sf_state.specs.declared.fields.Fields.{Fields}
use Rattle.sf_state.specs.declared.fields.Fields.TheVariants as fields
use Rattle.sf_state.specs.declared.fields.Setting.{Setting}
use Rattle.sf_state.specs.declared.line.Entry.{Entry}
use Rattle.sf_state.specs.declared.line.Entry.TheVariants as entry
use Rattle.sf_lines.specs.Lines.{Text, only, split_once, words}
use Rattle.sf_state.specs.Words.{begins}
use Rattle.sf_state.specs.Names.{field_named, is_target, place_of}
use Rattle.sf_state.specs.Refused.{cell_given, cell_in, value_given, value_in}
use Rattle.sf_state.specs.Says.{assigned, both, cell_said, cell_with, entries_from, field_said, fields_said, is_finished, named_value, named_value_in, said, says, set_field, set_variable, setting_of, variable_said, variable_with}
use Rattle.sf_state.specs.Values.{is_location, is_nil, location_from, numbered_by, value_from}

-- a value that is a location is below 2^62
abbrev pub IsSmall : Value → Type 0
IsSmall nil = Unit {0}
IsSmall (int i) = Unit {0}
IsSmall (loc l) = l < 2 ^ 62

-- the same of what there may be
abbrev pub IfSmall : Option Value → Type 0
IfSmall None = Unit {0}
IfSmall (Some v) = IsSmall v

abbrev IfBelow : Option ℕ → Type 0
IfBelow None = Unit {0}
IfBelow (Some l) = l < 2 ^ 62

-- of the values of settings
abbrev pub AllSmall : List Setting → Type 0
AllSmall [] = Unit {0}
AllSmall (s ∷ more) = IsSmall s.value × AllSmall more

abbrev FieldsSmall : Fields → Type 0
FieldsSmall fields.Bad = Unit {0}
FieldsSmall (fields.Unknown name) = Unit {0}
FieldsSmall (fields.Are settings) = AllSmall settings

abbrev IfNamedSmall : Option (Text × Value) → Type 0
IfNamedSmall None = Unit {0}
IfNamedSmall (Some s) = IsSmall s.1

-- of what a line says
abbrev pub EntrySmall : Entry → Type 0
EntrySmall entry.Nothing = Unit {0}
EntrySmall entry.Bad = Unit {0}
EntrySmall (entry.Unknown name) = Unit {0}
EntrySmall (entry.Variable number value) = IsSmall value
EntrySmall (entry.Cell location settings) = (location < 2 ^ 62) × AllSmall settings

abbrev pub EntriesSmall : List Entry → Type 0
EntriesSmall [] = Unit {0}
EntriesSmall (e ∷ es) = EntrySmall e × EntriesSmall es

-- what holds of both branches holds of the one that is chosen
branch : {X : Type 0} (P : X → Type 0) (b : Bool) (x y : X) → P x → P y → P (cond b x y)
branch P true x y p q = p
branch P false x y p q = q

-- a number that is that of a location is below the limit
small-number : (digits : Text) → IfBelow (numbered_by digits)
small-number digits = step (is_some_of is_digit digits && is_location (digits_value 10 digits)) refl
  where
    step : (b : Bool) → (is_some_of is_digit digits && is_location (digits_value 10 digits)) ≡ b
        → IfBelow (cond b (Some (digits_value 10 digits)) None)
    step true e = ltb-true (digits_value 10 digits) LOCATIONS
        (and-right (nat_le 1 (digits_value 10 digits)) (nat_lt (digits_value 10 digits) LOCATIONS)
        (and-right (is_some_of is_digit digits) (is_location (digits_value 10 digits)) e))
    step false e = tt

small-location : (word : Text) → IfBelow (location_from word)
small-location [] = tt
small-location (b ∷ bs) = branch IfBelow (b == 64) (numbered_by bs) None (small-number bs) tt

small-value : (word : Text) → IfSmall (value_from word)
small-value word = branch IfSmall (is_nil word) (Some nil)
    (option_or (option_map loc (location_from word)) (option_map int (number_of word))) tt
    (located (location_from word) (small-location word))
  where
    number : (o : Option _) → IfSmall (option_map int o)
    number None = tt
    number (Some i) = tt

    located : (o : Option ℕ) → IfBelow o → IfSmall (option_or (option_map loc o) (option_map int (number_of word)))
    located None h = number (number_of word)
    located (Some l) h = h

-- a field with its value
small-named : (name : Text) (o : Option Value) → IfSmall o → IfNamedSmall (named_value name o)
small-named name None h = tt
small-named name (Some v) h = branch IfNamedSmall (is_name name) (Some (name, v)) None h tt

small-setting : (o : Option (Text × Text)) → IfNamedSmall (named_value_in o)
small-setting None = tt
small-setting (Some parts) = small-named parts.0 (value_from parts.1) (small-value parts.1)

small-field : (names : List Text) (o : Option (Text × Value)) → IfNamedSmall o → FieldsSmall (field_said names o)
small-field names None h = tt
small-field names (Some s) h = step (field_named names s.0)
  where
    step : (o : Option FieldId) → FieldsSmall (set_field s.0 s.1 o)
    step None = tt
    step (Some f) = (h, tt)

all-append : (xs ys : List Setting) → AllSmall xs → AllSmall ys → AllSmall (xs ++ ys)
all-append [] ys a b = b
all-append (x ∷ xs) ys a b = (a.0, all-append xs ys a.1 b)

small-both : (a b : Fields) → FieldsSmall a → FieldsSmall b → FieldsSmall (both a b)
small-both fields.Bad b h k = tt
small-both (fields.Unknown n) fields.Bad h k = tt
small-both (fields.Unknown n) (fields.Unknown m) h k = tt
small-both (fields.Unknown n) (fields.Are ys) h k = tt
small-both (fields.Are xs) fields.Bad h k = tt
small-both (fields.Are xs) (fields.Unknown m) h k = tt
small-both (fields.Are xs) (fields.Are ys) h k = all-append xs ys h k

small-fields : (names : List Text) (ws : List Text) → FieldsSmall (fields_said names ws)
small-fields names [] = tt
small-fields names (w ∷ ws) = small-both (field_said names (setting_of w)) (fields_said names ws)
    (small-field names (setting_of w) (small-setting (split_once 61 w))) (small-fields names ws)

-- a line
small-cell : (names : List Text) (o : Option ℕ) (ws : List Text) → IfBelow o → EntrySmall (cell_said names o ws)
small-cell names None ws h = tt
small-cell names (Some l) ws h = step (fields_said names ws) (small-fields names ws)
  where
    step : (f : Fields) → FieldsSmall f → EntrySmall (cell_with l f)
    step fields.Bad k = tt
    step (fields.Unknown n) k = tt
    step (fields.Are xs) k = (h, k)

small-with : (names : List Text) (name : Text) (o : Option Value) → IfSmall o
    → EntrySmall (variable_with names name o)
small-with names name None h = tt
small-with names name (Some v) h = branch EntrySmall (is_target name) (set_variable name v (place_of names name))
    entry.Bad (step (place_of names name)) tt
  where
    step : (o : Option ℕ) → EntrySmall (set_variable name v o)
    step None = tt
    step (Some k) = h

small-assigned : (names : List Text) (left right : Option Text) → EntrySmall (assigned names left right)
small-assigned names None right = tt
small-assigned names (Some name) None = tt
small-assigned names (Some name) (Some word) = small-with names name (value_from word) (small-value word)

small-variable : (names : List Text) (o : Option (Text × Text)) → EntrySmall (variable_said names o)
small-variable names None = tt
small-variable names (Some parts) = small-assigned names (only (words parts.0)) (only (words parts.1))

small-said : (fs names : List Text) (line : Text) (ws : List Text) → EntrySmall (said fs names line ws)
small-said fs names line [] = tt
small-said fs names line (w ∷ ws) =
    branch EntrySmall (begins 35 w) entry.Nothing
    (cond (begins 64 w) (cell_said fs (location_from w) ws) (variable_said names (split_once 61 line))) tt
    (branch EntrySmall (begins 64 w) (cell_said fs (location_from w) ws) (variable_said names (split_once 61 line))
    (small-cell fs (location_from w) ws (small-location w)) (small-variable names (split_once 61 line)))

small-says : (fs names : List Text) (before : ℕ) (line : Text) → EntrySmall (says fs names before line)
small-says fs names zero line = branch EntrySmall (is_finished (only (words line))) entry.Nothing
    (said fs names line (words line)) tt (small-said fs names line (words line))
small-says fs names (suc k) line = small-said fs names line (words line)

-- all lines
pub small-entries : (fs names : List Text) (before : ℕ) (ls : List Text)
    → EntriesSmall (entries_from fs names before ls)
small-entries fs names before [] = tt
small-entries fs names before (line ∷ ls) =
    (small-says fs names before line, small-entries fs names (suc before) ls)

-- the value that lines give to a variable
small-in : (number : ℕ) (e : Entry) → EntrySmall e → IfSmall (value_in number e)
small-in number entry.Nothing h = tt
small-in number entry.Bad h = tt
small-in number (entry.Unknown name) h = tt
small-in number (entry.Variable k value) h =
    branch IfSmall (k == number) (Some value) None h tt
small-in number (entry.Cell location settings) h = tt

either-small : (o q : Option Value) → IfSmall o → IfSmall q → IfSmall (option_or o q)
either-small None q h k = k
either-small (Some v) q h k = h

pub small-given : (es : List Entry) (number : ℕ) → EntriesSmall es → IfSmall (value_given es number)
small-given [] number h = tt
small-given (e ∷ es) number h = either-small (value_in number e) (value_given es number) (small-in number e h.0)
    (small-given es number h.1)

-- the cell that they give, and the fields of it that are set
abbrev pub IfCellSmall : ℕ → Option (List Setting) → Type 0
IfCellSmall location None = Unit {0}
IfCellSmall location (Some settings) = (location < 2 ^ 62) × AllSmall settings

either-cell : (l : ℕ) (o q : Option (List Setting)) → IfCellSmall l o → IfCellSmall l q
    → IfCellSmall l (option_or o q)
either-cell l None q h k = k
either-cell l (Some v) q h k = h

small-cell_in : (location : ℕ) (e : Entry) → EntrySmall e → IfCellSmall location (cell_in location e)
small-cell_in location entry.Nothing h = tt
small-cell_in location entry.Bad h = tt
small-cell_in location (entry.Unknown name) h = tt
small-cell_in location (entry.Variable k value) h = tt
small-cell_in location (entry.Cell at settings) h = step (at == location) refl
  where
    step : (b : Bool) → (at == location) ≡ b → IfCellSmall location (cond b (Some settings) None)
    step true e = subst (λ l. IfCellSmall l (Some settings)) (eqb-true at location e) h
    step false e = tt

pub small-cell_given : (es : List Entry) (location : ℕ) → EntriesSmall es
    → IfCellSmall location (cell_given es location)
small-cell_given [] location h = tt
small-cell_given (e ∷ es) location h =
    either-cell location (cell_in location e) (cell_given es location) (small-cell_in location e h.0)
    (small-cell_given es location h.1)
