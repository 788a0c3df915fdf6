-- What a part has of a resource: its variables, and the cells that its invariant asks for.
-- Ordinary: a restriction of a map, and a footprint.
use Rattle.std.specs.Prelude.{◌≡◌, None, Some, cond, unwrap_or, All}
use Rattle.std.specs.List.{slice_get}
use Rattle.sf_base.specs.declared.ids.ResId.{ResId}
use Rattle.sf_base.specs.declared.ids.Var.{Var}
use Rattle.sf_base.specs.declared.value.Value.{Value}
use Rattle.sf_base.specs.declared.value.Value.TheVariants.{Nil as nil}
use Rattle.sf_base.specs.HeapStore.{Slot, Store}
use Rattle.sf_core.specs.Machine.Config.{Common}
use Rattle.sf_core.specs.Machine.Start.{entry_slot}
use Rattle.sf_core.specs.Program.Formed.{variable_count}
use Rattle.sf_core.specs.Program.Syntax.{Program, Resource}
use Rattle.sf_foot.specs.Footprint.{HasNoFootprint, IsFootprint}
use Rattle.sf_frame.specs.Commons.{common_of}
use Rattle.sf_frame.specs.Stores.{store_of}
use Rattle.sf_frame.specs.declared.shared.Shared.{Shared}
use Rattle.sf_heap.specs.Cells.{HasCell, heap_of}
use Rattle.sf_part.specs.declared.share.Share.{Share}
use Rattle.sf_part.specs.Given.{is_variable_of}

-- the one store has just the variables of the resource that are in the other
abbrev pub IsOwnOf : Program → ResId → (whole part : Store) → Type 0
IsOwnOf p r whole part = (slot : Slot) → part slot
    ≡ cond (is_variable_of r (variable_count (slice_get p.resources r.0)) slot) (whole slot) None

-- the value of a variable in a store of variables of resources
abbrev pub seen_in : Store → Var → Value
seen_in store x = unwrap_or (store (entry_slot x)) nil

-- the share is the resource's of what is there
pub record IsShare (p : Program) (r : ResId) (s : Shared) (share : Share) : Type 0 where
  pub resource : Resource
  pub there : slice_get p.resources r.0 ≡ Some resource
  pub variables : IsOwnOf p r (common_of s).store (store_of share.store)
  pub cells : All (HasCell s.heap) share.at
  pub foot : IsFootprint resource.invariant.level (seen_in (store_of share.store)) (heap_of s.heap)
      share.at

-- of what is there nothing is the resource's
abbrev pub HasNoShare : Program → ResId → Common → Type 0
HasNoShare p r s = (resource : Resource) (part : Store) → slice_get p.resources r.0 ≡ Some resource
    → IsOwnOf p r s.store part → HasNoFootprint resource.invariant.level (seen_in part) s.heap
