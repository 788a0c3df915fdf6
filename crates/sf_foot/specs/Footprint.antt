-- Footprints: the part of a heap that satisfies an assertion, by the locations of its cells.
-- O'Hearn, Yang, Reynolds, "Separation and Information Hiding" (2004): at most one of a precise assertion.
use Rattle.std.specs.Prelude.{◌≢◌, ◌↔◌, ℕ, List, None, Contains}
use Rattle.sf_base.specs.declared.ids.Var.{Var}
use Rattle.sf_base.specs.declared.value.Value.{Value}
use Rattle.sf_base.specs.HeapStore.{Heap}
use Rattle.sf_core.specs.declared.command.Expr.{Expr}
use Rattle.sf_core.specs.Assertions.Sat.{Foot, value}
use Rattle.sf_core.specs.Program.Syntax.{Level}

-- a part of the heap is a footprint of the assertion, and its cells are at exactly those locations
pub record IsFootprint (a : Level Expr) (vars : Var → Value) (heap : Heap) (locations : List ℕ)
    : Type 0 where
  pub part : Heap
  pub foot : Foot a (value vars) heap part
  pub at : (location : ℕ) → part location ≢ None ↔ Contains locations location

-- no part of the heap satisfies the assertion
abbrev pub HasNoFootprint : Level Expr → (Var → Value) → Heap → Type 0
HasNoFootprint a vars heap = (part : Heap) → Foot a (value vars) heap part → ⊥
