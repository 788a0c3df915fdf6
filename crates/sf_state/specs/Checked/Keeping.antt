-- What is kept of the lines that were read.
-- Ordinary: tables, and the list of entries that they stand for.
use Rattle.std.specs.Prelude.{◌≡◌, ◌⊎◌, ℕ, ◌<◌, ◌++◌, List, [], ◌∷◌, Option, Some, None, Result, Ok, Err, length, map, slice_get}
use Rattle.std.specs.BTreeMap.{btree_map_len, get}
use Rattle.std.specs.Option.{option_map}
use Rattle.std.specs.Ordering.{nat_cmp}
use Rattle.sf_state.specs.declared.line.Entry.{Entry}
use Rattle.sf_state.specs.declared.line.Entry.TheVariants.{Nothing, Bad, Unknown, Variable, Cell}
use Rattle.sf_state.specs.declared.fault.StartFault.{StartFault}
use Rattle.sf_state.specs.declared.fault.StartFault.TheVariants.{OutOfMemory}
use Rattle.sf_state.specs.declared.given.Given.{Given}
use Rattle.sf_state.specs.declared.state.State.{State}
use Rattle.sf_state.specs.Names.{Format}
use Rattle.sf_lines.specs.Lines.{Text}
use Rattle.sf_state.specs.Refused.{cell_count, cell_given, cell_values, first_refusal, refusal, value_given}
use Rattle.sf_state.specs.Stated.{is_fresh, missing_from, needed, or_nil}
use Rattle.sf_state.specs.Says.{entries_from, entries_of}

-- a variable that a line names has one of so many numbers
abbrev pub IsPlaced : ℕ → Entry → Type 0
IsPlaced count (Variable number value) = number < count
IsPlaced count Nothing = Unit {0}
IsPlaced count Bad = Unit {0}
IsPlaced count (Unknown name) = Unit {0}
IsPlaced count (Cell location settings) = Unit {0}

-- it is kept what these lines give
pub record Keeps (fields names : List Text) (given : Given) (es : List Entry) : Type 0 where
  pub size : length given.values.items ≡ length names
  pub values : (number : ℕ) → number < length names
      → slice_get given.values.items number ≡ Some (value_given es number)
  pub cells : (location : ℕ) → get nat_cmp given.cells location
      ≡ option_map (cell_values (length fields)) (cell_given es location)
  pub count : btree_map_len given.cells ≡ cell_count es

-- the call takes one line more after these, or says why it is refused, or memory runs out
abbrev pub Taken : (fields names : List Text) → Result (Unit {0}) StartFault → (new : Given) → (es : List Entry)
    → Entry → Type 0
Taken fields names (Ok u) new es e = (refusal fields names es e ≡ None) × Keeps fields names new (es ++ e ∷ [])
Taken fields names (Err f) new es e = (f ≡ OutOfMemory) ⊎ (refusal fields names es e ≡ Some f)

-- the call takes all these lines, or says why the first one that is refused is, or memory runs out
abbrev pub AllTaken : (fields names : List Text) → Result Given StartFault → List Entry → Type 0
AllTaken fields names (Ok given) es = (first_refusal fields names [] es ≡ None) × Keeps fields names given es
AllTaken fields names (Err f) es = (f ≡ OutOfMemory) ⊎ (first_refusal fields names [] es ≡ Some f)

-- in between: these lines are left, and what is kept is what the others give, of which none is
-- refused
pub record Reading (fields names : List Text) (text : Text) (before : ℕ) (left : List Text) (given : Given)
    : Type 0 where
  pub done : List Entry
  pub number : length done ≡ before
  pub keeps : Keeps fields names given done
  pub entries : entries_of fields names text ≡ done ++ entries_from fields names before left
  pub refusals : first_refusal fields names [] (entries_of fields names text)
      ≡ first_refusal fields names done (entries_from fields names before left)

-- the call makes the state in which the variables are given so, with those cells, or says which
-- variable is the first that is missing, or memory runs out
abbrev pub Completes : Format → Given → Result State StartFault → Type 0
Completes m given (Ok state) = (missing_from m.names 0 (needed m given.values.items) ≡ None)
    × (state.values.items ≡ map or_nil given.values.items) × (state.cells ≡ given.cells)
    × (state.fresh ≡ is_fresh m given.values.items)
Completes m given (Err f) = (f ≡ OutOfMemory)
    ⊎ (missing_from m.names 0 (needed m given.values.items) ≡ Some f)
