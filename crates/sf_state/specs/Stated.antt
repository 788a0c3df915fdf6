-- What a whole text gives: a value for each variable, and cells; or why it is refused.
-- Ordinary: a finite map as the list of its entries; the first reason in a fixed order.
use Rattle.std.specs.Prelude.{◌≡◌, ◌⊎◌, ◌&&◌, ℕ, suc, nat_lt, Bool, if◌then◌else◌, Option, Some, None, Result, Ok, Err, List, [], ◌∷◌, drop, is_none, length, map, take, unwrap_or}
use Rattle.std.specs.BTreeMap.{get}
use Rattle.std.specs.List.{list_all}
use Rattle.std.specs.Option.{option_map, option_or}
use Rattle.std.specs.Ordering.{nat_cmp}
use Rattle.sf_base.specs.declared.limits.TheConstants.{STATE_BYTES}
use Rattle.sf_base.specs.declared.value.Value.{Value}
use Rattle.sf_base.specs.declared.value.Value.TheVariants.{Nil as nil}
use Rattle.sf_state.specs.declared.fault.StartFault.{StartFault}
use Rattle.sf_state.specs.declared.fault.StartFault.TheVariants as fault
use Rattle.sf_state.specs.declared.line.Entry.{Entry}
use Rattle.sf_state.specs.declared.state.State.{State}
use Rattle.sf_lines.specs.Lines.{Text}
use Rattle.sf_state.specs.Names.{Format}
use Rattle.sf_state.specs.Refused.{cell_given, cell_values, first_refusal, name_at, value_given}
use Rattle.sf_state.specs.Says.{entries_of}

-- what lines give to the variables of these names, in order, the first of which has that number
abbrev pub values_given : (entries : List Entry) → (number : ℕ) → (names : List Text) → List (Option Value)
values_given es number [] = []
values_given es number (name ∷ more) = value_given es number ∷ values_given es (suc number) more

-- that the first variable which has no value is missing; the first of these has that number
abbrev pub missing_from : (names : List Text) → (number : ℕ) → List (Option Value) → Option StartFault
missing_from names number [] = None
missing_from names number (None ∷ values) = Some (fault.Missing (name_at names number))
missing_from names number (Some value ∷ values) = missing_from names (suc number) values

-- what the lines of a text give to all variables, in order
abbrev pub given_by : Format → Text → List (Option Value)
given_by m text = values_given (entries_of m.fields m.names text) 0 m.names

-- whether the state in which the variables are given so is fresh: the program has `init`, and no
-- variable of a resource is given
abbrev pub is_fresh : Format → List (Option Value) → Bool
is_fresh m given = m.init && list_all is_none (drop m.own given)

-- what is given to the variables that have to be given: in a fresh state to the procedure's own
-- alone
abbrev pub needed : Format → List (Option Value) → List (Option Value)
needed m given = if is_fresh m given then take m.own given else given

-- why a text of these lines is refused: its first line that is refused, or the first variable
-- without a value that has to have one
abbrev pub lines_refusal : Format → List Entry → Option StartFault
lines_refusal m es = option_or (first_refusal m.fields m.names [] es)
    (missing_from m.names 0 (needed m (values_given es 0 m.names)))

-- why a text is refused: before all else, because it is too long
abbrev pub text_refusal : Format → Text → Option StartFault
text_refusal m text = if nat_lt STATE_BYTES (length text) then Some fault.TooLong
    else lines_refusal m (entries_of m.fields m.names text)

-- the value of a variable that is given so: nil where it isn't
abbrev pub or_nil : Option Value → Value
or_nil given = unwrap_or given nil

-- the values of the variables, in order, and the cells are those that the lines of a text give
pub record Gives (m : Format) (text : Text) (values : List Value) (cells : ℕ → Option (List Value)) : Type 0 where
  pub values_are : values ≡ map or_nil (given_by m text)
  pub cells_are : (location : ℕ) → cells location
      ≡ option_map (cell_values (length m.fields)) (cell_given (entries_of m.fields m.names text) location)

-- the call gives what the text says, where nothing in it is refused, and whether that is fresh; or
-- says why it is refused, or that memory ran out
abbrev pub IsStated : Format → Text → Result State StartFault → Type 0
IsStated m text (Ok state) = (text_refusal m text ≡ None)
    × Gives m text state.values.items (get nat_cmp state.cells) × (state.fresh ≡ is_fresh m (given_by m text))
IsStated m text (Err f) = (f ≡ fault.OutOfMemory) ⊎ (text_refusal m text ≡ Some f)
