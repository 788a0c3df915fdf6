-- The footprints that were found for the first assertions, and what comes of the next one.
-- Ordinary: footprints in a whole heap that are disjoint, for footprints each in what the earlier
-- ones leave.
use Rattle.std.specs.Prelude.{◌≡◌, ◌⊎◌, ◌≤◌, ℕ, ◌++◌, Bool, true, false, List, [], ◌∷◌, Ok, Err, Result}
use Rattle.std.specs.List.{AllZip, concat}
use Rattle.std.specs.declared.alloc.AllocError.{AllocError}
use Rattle.sf_base.specs.declared.ids.Var.{Var}
use Rattle.sf_base.specs.declared.value.Value.{Value}
use Rattle.sf_core.specs.Program.Syntax.{Assertion, Procedure, Program}
use Rattle.sf_heap.specs.Cells.{Cells, heap_of}
use Rattle.sf_foot.specs.Footprint.{HasNoFootprint, IsFootprint}
use Rattle.sf_foot.specs.Starting.{assertions_of}
use Rattle.sf_state.specs.declared.fault.StartFault.{StartFault}
use Rattle.sf_state.specs.declared.fault.StartFault.TheVariants as fault
use Rattle.sf_foot.specs.declared.found.Found.{Found}
use Rattle.sf_foot.specs.Found.{AreApart}
use Rattle.sf_state.specs.Starts.{IsUnmet, assertion_name, without}

-- these assertions have those footprints in the heap, which are disjoint
pub record AreFound (assertions : List Assertion) (vars : Var → Value) (heap : Cells) (found : Found) : Type 0 where
  pub footprints : AllZip (λ a ls. IsFootprint a.level vars (heap_of heap) ls) assertions found.parts.items
  pub apart : AreApart heap found

-- the assertion after them has a footprint in what they leave, and was found too; or it has none;
-- or memory runs out
abbrev pub AlsoFound : (before : List Assertion) → Assertion → (Var → Value) → Cells → (old new : Found)
    → Result Bool AllocError → Type 0
AlsoFound before a vars heap old new (Ok true) = AreFound (before ++ a ∷ []) vars heap new
AlsoFound before a vars heap old new (Ok false) =
    HasNoFootprint a.level vars (without (concat old.parts.items) (heap_of heap))
AlsoFound before a vars heap old new (Err e) = Unit {0}

-- all assertions of a start, fresh or not, were found, or the call says which is unmet, or memory
-- ran out
abbrev pub AllFound : Program → Procedure → Bool → (Var → Value) → Cells → Result Found StartFault → Type 0
AllFound p g fresh vars heap (Ok found) = AreFound (assertions_of p g fresh) vars heap found
AllFound p g fresh vars heap (Err e) = (e ≡ fault.OutOfMemory)
    ⊎ ((number : ℕ) × (e ≡ fault.Unmet (assertion_name p number))
    × IsUnmet vars (heap_of heap) (assertions_of p g fresh) number)

-- it is the least of those numbers
pub record IsLeast (P : ℕ → Type 0) (number : ℕ) : Type 0 where
  pub here : P number
  pub least : (other : ℕ) → P other → number ≤ other
