-- Footprints that were found one after the other, and what comes of the next one.
-- Ordinary: footprints in a whole heap that are disjoint, for footprints each in what the earlier
-- ones leave.
use Rattle.std.specs.Prelude.{◌≡◌, ℕ, ◌++◌, Bool, true, false, nat_eq, List, [], ◌∷◌, None, Ok, Err, Result}
use Rattle.std.specs.BTreeSet.{contains}
use Rattle.std.specs.FinMap.{contains_key}
use Rattle.std.specs.List.{IsDistinct, concat}
use Rattle.std.specs.Ordering.{nat_cmp}
use Rattle.std.specs.Set.{is_member}
use Rattle.std.specs.declared.alloc.AllocError.{AllocError}
use Rattle.sf_base.specs.declared.ids.Var.{Var}
use Rattle.sf_base.specs.declared.value.Value.{Value}
use Rattle.sf_base.specs.declared.value.Value.TheVariants.{Nil as nil}
use Rattle.sf_base.specs.HeapStore.{Heap, Splits}
use Rattle.sf_core.specs.declared.command.Expr.{Expr}
use Rattle.sf_core.specs.Assertions.Sat.{Foot, Sat, value}
use Rattle.sf_core.specs.Program.Syntax.{Level}
use Rattle.sf_heap.specs.Cells.{Cells, heap_of}
use Rattle.sf_foot.specs.declared.found.Found.{Found}
use Rattle.sf_foot.specs.Footprint.{IsFootprint}

-- the parts are disjoint, each of their locations has a cell, and the set has just these
pub record AreApart (heap : Cells) (found : Found) : Type 0 where
  pub distinct : IsDistinct nat_eq (concat found.parts.items)
  pub there : (l : ℕ) → is_member nat_eq (concat found.parts.items) l ≡ true
      → contains_key heap l ≡ true
  pub marks : (l : ℕ) → contains nat_cmp found.taken l ≡ is_member nat_eq
      (concat found.parts.items) l

-- of each heap at most one part satisfies the assertion: it is precise
abbrev pub HasOnePart : Level Expr → (Var → Value) → Type 0
HasOnePart a vars = (heap one two other another : Heap) → Splits heap one other
    → Splits heap two another
    → Sat a (value vars) (λ n. nil) one → Sat a (value vars) (λ n. nil) two → one ≡ two

-- no part of the heap that has none of these cells satisfies the assertion
abbrev pub HasNoneBeside : (taken : List ℕ) → Level Expr → (Var → Value) → Heap → Type 0
HasNoneBeside taken a vars heap = (part : Heap) → Foot a (value vars) heap part
    → ((l : ℕ) → is_member nat_eq taken l ≡ true → part l ≡ None) → ⊥

-- the next assertion has a footprint beside the earlier ones, which was found; or nothing is
-- changed, and it has none, if it is precise; or memory ran out
abbrev pub FindsNext : Level Expr → (Var → Value) → Cells → (old new : Found)
    → Result Bool AllocError
    → Type 0
FindsNext a vars heap old new (Ok true) = AreApart heap new × (locations : List ℕ)
    × (new.parts.items ≡ old.parts.items ++ locations ∷ [])
    × IsFootprint a vars (heap_of heap) locations
FindsNext a vars heap old new (Ok false) = (new ≡ old)
    × (HasOnePart a vars → HasNoneBeside (concat old.parts.items) a vars (heap_of heap))
FindsNext a vars heap old new (Err e) = Unit {0}
