-- Meeting: the values that existentials without a term were found to have, as equations.
-- Ordinary: one-sided unification.
use Rattle.std.specs.Prelude.{◌≡◌, ◌↔◌, ◌==◌, ℕ, cond, Option, Some, None, List, [], ◌∷◌, Contains}
use Rattle.std.specs.List.{AllByRecursion}
use Rattle.sf_base.specs.declared.ids.FieldId.{FieldId}
use Rattle.sf_base.specs.declared.value.Value.{Value}
use Rattle.sf_base.specs.declared.value.Value.TheVariants.{Loc as loc}
use Rattle.sf_base.specs.HeapStore.{Cell, Heap}
use Rattle.sf_core.specs.declared.assertion.Operand.{Operand}
use Rattle.sf_core.specs.Assertions.Sat.{HasFields, operand}
use Rattle.sf_sym.specs.declared.term.Term.{Term}
use Rattle.sf_sym.specs.Holds.{IsBound, term_value}
use Rattle.sf_witness.specs.Located.{located}

-- what was met: existentials and their values
abbrev pub Met : Type 0
Met = List (ℕ × Value)

-- the value of an existential that was met
abbrev pub found : Met → ℕ → Option Value
found [] n = None
found (m ∷ ms) n = cond (m.0 == n) (Some m.1) (found ms n)

-- the existentials have the values that were met
abbrev pub Agrees : Met → (ℕ → Value) → Type 0
Agrees met some = AllByRecursion (λ (m : ℕ × Value). some m.0 ≡ m.1) met

-- some values of the existentials are those of their terms and those that were met
abbrev pub IsConsistent : List (Option Term) → Met → Type 0
IsConsistent bindings met = (some : ℕ → Value) × IsBound located bindings some × Agrees met some

-- the operand has that value, with these values of the existentials
abbrev pub HasValue : Value → (ℕ → Value) → Operand Term → Type 0
HasValue v some x = operand (term_value located) some x ≡ v

-- what is met after says what was met before, and P
abbrev pub Meets : List (Option Term) → (before after : Met) → ((ℕ → Value) → Type 0) → Type 0
Meets bindings before after P =
    (some : ℕ → Value) → IsBound located bindings some → Agrees after some ↔ (Agrees before some × P some)

-- P holds for no values that agree with what was met
abbrev pub Refutes : List (Option Term) → Met → ((ℕ → Value) → Type 0) → Type 0
Refutes bindings met P = (some : ℕ → Value) → IsBound located bindings some → Agrees met some → P some → ⊥

-- that cell at that location is one at the root with these fields, with some values of the existentials
abbrev pub IsCellAs : List (Option Term) → Operand Term → List (FieldId × Operand Term) → ℕ → Cell → Type 0
IsCellAs bindings x fields location cell =
    (some : ℕ → Value) × IsBound located bindings some × HasValue (loc location) some x
    × HasFields (operand (term_value located) some) fields cell

-- there is one at that location
abbrev pub IsThereAs : List (Option Term) → Operand Term → List (FieldId × Operand Term) → Heap → ℕ → Type 0
IsThereAs bindings x fields heap location =
    (cell : Cell) × (heap location ≡ Some cell) × IsCellAs bindings x fields location cell

-- there is one in the heap
abbrev pub HasCellAs : List (Option Term) → Operand Term → List (FieldId × Operand Term) → Heap → Type 0
HasCellAs bindings x fields heap = (location : ℕ) × IsThereAs bindings x fields heap location

-- there is one at one of those locations
abbrev pub IsAmong : List (Option Term) → Operand Term → List (FieldId × Operand Term) → Heap → List ℕ → Type 0
IsAmong bindings x fields heap ls =
    (location : ℕ) × Contains ls location × IsThereAs bindings x fields heap location
