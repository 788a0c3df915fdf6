-- Which states can be written so that they are read back: names that a reader takes, and values
-- within the limits.
-- Ordinary: the tokens of a format, and that no two things of one kind have one name.
use Rattle.std.specs.Prelude.{◌≡◌, ◌≤◌, ◌+◌, ℕ, true, List, Some, Contains, length, map, slice_get}
use Rattle.std.specs.FinMap.{get, len}
use Rattle.sf_base.specs.declared.limits.TheConstants.{STATE_CELLS}
use Rattle.sf_base.specs.declared.value.Value.{Value}
use Rattle.sf_base.specs.declared.value.Value.TheVariants.{Nil as nil, Int as int, Loc as loc}
use Rattle.sf_core.specs.Program.Syntax.{Procedure, Program, Resource}
use Rattle.sf_heap.specs.Cells.{Cells, FieldValues}
use Rattle.sf_foot.specs.declared.vars.Vars.{Vars}
use Rattle.sf_lex.specs.Piece.{fits}
use Rattle.sf_lex.specs.Whole.{is_name}
use Rattle.sf_lines.specs.Lines.{Text}
use Rattle.sf_state.specs.Finishing.{values_of}
use Rattle.sf_state.specs.Names.{parameters}
use Rattle.sf_state.specs.Values.{is_location}

-- each of these is a name, and no two of them are one
pub record AreNames (names : List Text) : Type 0 where
  pub named : (k : ℕ) (name : Text) → slice_get names k ≡ Some name → is_name name ≡ true
  pub differ : (j k : ℕ) (name : Text) → slice_get names j ≡ Some name → slice_get names k ≡ Some name → j ≡ k

-- the names of a program are names, and those of one kind differ: fields, resources, procedures,
-- the variables of one resource, and the references and values of one procedure
pub record HasNames (p : Program) : Type 0 where
  pub fields : AreNames p.fields
  pub resources : AreNames (map (λ r. r.name) p.resources)
  pub procedures : AreNames (map (λ g. g.name) p.procedures)
  pub variables : (k : ℕ) (r : Resource) → slice_get p.resources k ≡ Some r → AreNames r.variables
  pub own : (k : ℕ) (g : Procedure) → slice_get p.procedures k ≡ Some g → AreNames (parameters g)

-- a value that a text can have: an integer of 64 bits, or a location within the limits
abbrev pub IsWritable : Value → Type 0
IsWritable nil = Unit {0}
IsWritable (int i) = fits i ≡ true
IsWritable (loc n) = is_location n ≡ true

-- a cell that a text can have: it has a value for each of the program's fields
pub record IsWritableCell (p : Program) (at : ℕ) (values : FieldValues) : Type 0 where
  pub location : is_location at ≡ true
  pub size : length values ≡ length p.fields
  pub each : (v : Value) → Contains values v → IsWritable v

-- variables and cells that a text can have: a value for each variable of the procedure and of the
-- resources, and cells within the limit
pub record AreWritable (p : Program) (g : Procedure) (vars : Vars) (heap : Cells) : Type 0 where
  pub own : length vars.own.items ≡ g.references + g.values
  pub shared : map (λ vs. length vs.items) vars.shared.items ≡ map (λ r. length r.variables) p.resources
  pub values : (v : Value) → Contains (values_of vars) v → IsWritable v
  pub cells : (location : ℕ) (values : FieldValues) → get heap location ≡ Some values
      → IsWritableCell p location values
  pub few : len heap ≤ STATE_CELLS
