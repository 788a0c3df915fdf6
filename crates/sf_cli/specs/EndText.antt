-- EndText: the text of the configuration in which a run has ended.
-- O'Hearn (2007); Brookes (2007): the state at the end of a program with resources.
use Rattle.std.specs.Prelude.{◌≡◌, ◌≢◌, ◌↔◌, ℕ, suc, List, [], ◌∷◌, ◌++◌, Contains, Option, None, unwrap_or}
use Rattle.std.specs.List.Sorted.{IsStrictlyIncreasing}
use Rattle.std.specs.Option.{option_map}
use Rattle.sf_base.specs.HeapStore.{Heap, Store, own, shared}
use Rattle.sf_base.specs.declared.value.Value.{Value}
use Rattle.sf_base.specs.declared.value.Value.TheVariants.{Nil as nil}
use Rattle.sf_core.specs.Machine.Config.{Config}
use Rattle.sf_core.specs.Program.Syntax.{Procedure, Program, Resource}
use Rattle.sf_state.specs.Names.{names_of, parameters}
use Rattle.sf_state.specs.StateText.{state_text}
use Rattle.sf_words.specs.Words.{Text}

-- the values that go with these names, the first of which has that number
abbrev pub values_by : (ℕ → Value) → (number : ℕ) → (names : List Text) → List Value
values_by value number [] = []
values_by value number (name ∷ more) = value number ∷ values_by value (suc number) more

-- the values of the variables of these resources, the first of which has that number
abbrev pub shared_values : Store → (number : ℕ) → List Resource → List Value
shared_values store number [] = []
shared_values store number (r ∷ rs) =
    values_by (λ i. unwrap_or (store (shared (record { 0 = number }) i)) nil) 0 r.variables
    ++ shared_values store (suc number) rs

-- the values of the entry's references and values, which are kept by the start's number, and of the
-- resources' variables
abbrev pub values_in : Program → Procedure → Store → List Value
values_in p g store = values_by (λ i. unwrap_or (store (own 0 i)) nil) 0 (parameters g)
    ++ shared_values store 0 p.resources

-- the values of a cell's fields, in declared order
abbrev pub cells_in : Program → Heap → ℕ → Option (List Value)
cells_in p heap location = option_map (λ cell. values_by cell 0 p.fields) (heap location)

-- it is the text of the variables' values in that configuration and of all its cells, by rising
-- location
pub record IsEndText (p : Program) (g : Procedure) (c : Config) (text : Text) : Type 0 where
  pub locations : List ℕ
  pub rising : IsStrictlyIncreasing locations
  pub all : (location : ℕ) → (c.common.heap location ≢ None) ↔ Contains locations location
  pub is : text ≡ state_text p.fields (names_of p g) (values_in p g c.common.store) (cells_in p c.common.heap)
      locations
