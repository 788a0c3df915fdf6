-- WitnessText: the text of a goal's witness: the variables, the cells, and whether what the goal is
-- stuck at is so there.
-- Ordinary: a report of a counterexample, in the form of the text of a state.
use Rattle.std.specs.Prelude.{◌≡◌, ◌≢◌, ◌↔◌, ℕ, suc, ◌++◌, Bool, true, false, Option, Some, None}
use Rattle.std.specs.Prelude.{List, [], ◌∷◌, Contains, codes}
use Rattle.std.specs.List.{flat_map}
use Rattle.std.specs.List.Sorted.{IsStrictlyIncreasing}
use Rattle.sf_base.specs.declared.ids.ProcId.{ProcId}
use Rattle.sf_base.specs.declared.ids.Var.{Var}
use Rattle.sf_base.specs.declared.value.Value.{Value}
use Rattle.sf_base.specs.HeapStore.{Cell, Heap}
use Rattle.sf_core.specs.Program.Syntax.{Program}
use Rattle.sf_sym.specs.declared.stuck.Stuck.{Stuck}
use Rattle.sf_report.specs.Failure.{goal_line}
use Rattle.sf_report.specs.Names.{variable_text}
use Rattle.sf_proof.specs.ProofText.{Text}
use Rattle.sf_state.specs.Refused.{cell_name}
use Rattle.sf_state.specs.StateText.{field_text, variable_line}
use Rattle.sf_sym.specs.Goal.{Goal}
use Rattle.sf_witness.specs.Normal.{Normal}
use Rattle.sf_witness.specs.Wanted.{WantHolds, whole_heap}
use Rattle.sf_witness.specs.WitnessState.{nil_cell, values}

-- the line of a variable, as the procedure names it
abbrev pub value_line : Program → ProcId → Var × Value → Text
value_line p f v = variable_line (variable_text p f v.0) v.1

-- these fields of a cell, the first of which has that number, in declared order
abbrev pub cell_fields : (names : List Text) → (number : ℕ) → Cell → Text
cell_fields [] number cell = []
cell_fields (name ∷ more) number cell =
    field_text name (cell number) ++ cell_fields more (suc number) cell

-- the cell that is there; one that isn't is nil
abbrev pub cell_or_nil : Option Cell → Cell
cell_or_nil None = nil_cell
cell_or_nil (Some cell) = cell

-- the line of a cell, with all fields
abbrev pub cell_line : (names : List Text) → Heap → (location : ℕ) → Text
cell_line names heap location =
    cell_name location ++ cell_fields names 0 (cell_or_nil (heap location)) ++ codes "\n"

-- the last line
abbrev pub want_line : (fails : Bool) → Text
want_line true = codes "want fails\n"
want_line false = codes "want holds\n"

-- the text of the witness of a normal state: its variables in order, its cells by rising location,
-- and the last line
pub record IsTextOfWitness (p : Program) (f : ProcId) (goal : Goal) (kind : Stuck) (text : Text)
    : Type 0 where
  pub locations : List ℕ
  pub rising : IsStrictlyIncreasing locations
  pub all : (l : ℕ) → whole_heap goal.state l ≢ None ↔ Contains locations l
  pub fails : Bool
  pub want : (fails ≡ false) ↔ WantHolds goal kind
  pub is : text
      ≡ flat_map (value_line p f) (values goal.state.vars)
      ++ flat_map (cell_line p.fields (whole_heap goal.state)) locations
      ++ want_line fails

-- the first line, which is that of the failure with another word
abbrev pub first_line : Program → ProcId → Goal → Stuck → Text
first_line p f goal kind = goal_line (codes "witness ") p f goal kind

-- WitnessText: the first line, and then the witness, or that there is none
pub data WitnessText (p : Program) (f : ProcId) (goal : Goal) (kind : Stuck) (text : Text)
    : Type 0 where
  has_witness : (rest : Text) → Normal goal.state → IsTextOfWitness p f goal kind rest
      → text ≡ first_line p f goal kind ++ rest → WitnessText p f goal kind text
  has_none : (Normal goal.state → ⊥) → text ≡ first_line p f goal kind ++ codes "no witness\n"
      → WitnessText p f goal kind text
