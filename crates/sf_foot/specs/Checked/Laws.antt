-- A law of footprints, in words of their own: whether an assertion in order has one is decided.
-- Ordinary: pointers of a finite heap are followed, and a walk with more steps than cells meets one of them twice.
use Rattle.std.specs.Prelude.{◌⊎◌, ℕ, List, nat_eq}
use Rattle.std.specs.List.{IsDistinct}
use Rattle.sf_base.specs.declared.ids.Var.{Var}
use Rattle.sf_base.specs.declared.value.Value.{Value}
use Rattle.sf_base.specs.HeapStore.{Heap}
use Rattle.sf_core.specs.declared.command.Expr.{Expr}
use Rattle.sf_core.specs.Assertions.InOrder.{IsInOrder}
use Rattle.sf_core.specs.Program.Syntax.{Level}
use Rattle.sf_heap.specs.Cells.{Cells, heap_of}
use Rattle.sf_foot.specs.Footprint.{HasNoFootprint, IsFootprint}

-- the assertion has a footprint in the heap, at locations that differ, or has none
abbrev pub HasFootprintOrNone : Level Expr → (Var → Value) → Heap → Type 0
HasFootprintOrNone a vars heap =
    ((locations : List ℕ) × IsFootprint a vars heap locations × IsDistinct nat_eq locations)
    ⊎ HasNoFootprint a vars heap

-- each assertion in order has the one or the other in each heap with finitely many cells
unfoldable pub FootprintIsDecided : Type 0
FootprintIsDecided = (a : Level Expr) (vars : Var → Value) (heap : Cells) → IsInOrder a
    → HasFootprintOrNone a vars (heap_of heap)
