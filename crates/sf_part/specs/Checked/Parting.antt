-- What is shared once the contents of the first resources are parted off.
-- Ordinary: unions of maps, one content after the other.
use Rattle.std.specs.Prelude.{◌≡◌, ◌<◌, ◌≤◌, ◌+◌, ℕ, cond, List, [], ◌∷◌, get_or, length, map, slice_get, Some, None, Contains}
use Rattle.std.specs.FinMap as cells
use Rattle.sf_base.specs.declared.ids.ResId.{ResId}
use Rattle.sf_base.specs.HeapStore.{Cell, Slot, Splits, own, shared}
use Rattle.sf_core.specs.Machine.Whole.{IsUnion}
use Rattle.sf_core.specs.Program.Syntax.{Resource}
use Rattle.sf_foot.specs.Starting.{HasWidth}
use Rattle.sf_frame.specs.declared.shared.Shared.{Shared}
use Rattle.sf_frame.specs.Stores.{store_of}
use Rattle.sf_heap.specs.Cells.{AreAt, HasCell, heap_of}
use Rattle.sf_part.specs.declared.content.Content.{Content}
use Rattle.sf_part.specs.Given.{is_variable_of}

-- a content of that resource, which has so many variables, with the cells at those locations, is
-- parted off
pub record PartsOff (r : ResId) (count : ℕ) (at : List ℕ) (old : Shared) (k : Content)
    (new : Shared) : Type 0 where
  pub resource : k.resource ≡ r
  pub stamp : k.stamp ≡ 0
  pub cells : Splits (cells.get old.heap) (cells.get k.heap) (cells.get new.heap)
  pub heap : Splits (heap_of old.heap) (heap_of k.heap) (heap_of new.heap)
  pub locations : AreAt at k.heap
  pub store : Splits (store_of old.store) (store_of k.store) (store_of new.store)
  pub variables : (slot : Slot)
      → store_of k.store slot ≡ cond (is_variable_of r count slot) (store_of old.store slot) None
  pub held : new.held ≡ old.held

-- the content of the resource of that number has its variables, and the cells at the locations of
-- its part, which comes after the first one
pub record IsPartedOff (resources : List Resource) (parts : List (List ℕ)) (old : Shared)
    (number : ℕ) (k : Content) : Type 0 where
  pub number_is : k.resource.0 ≡ number
  pub stamp : k.stamp ≡ 0
  pub heap : (location : ℕ) (c : Cell) → heap_of k.heap location ≡ Some c
      → heap_of old.heap location ≡ Some c
  pub locations : AreAt (get_or parts (number + 1) []) k.heap
  pub resource : Resource
  pub there : slice_get resources number ≡ Some resource
  pub variables : (slot : Slot)
      → store_of k.store slot
      ≡ cond (is_variable_of k.resource (length resource.variables) slot)
      (store_of old.store slot) None
  pub wide : (count : ℕ) → HasWidth count old.heap → HasWidth count k.heap

-- those of so many resources are parted off
pub record ArePartedOff (resources : List Resource) (parts : List (List ℕ)) (n : ℕ) (old : Shared)
    (contents : List Content) (new : Shared) : Type 0 where
  pub each : length contents ≡ n
  pub heap : IsUnion (heap_of old.heap)
      (heap_of new.heap ∷ map (λ (k : Content). heap_of k.heap) contents)
  pub store : IsUnion (store_of old.store)
      (store_of new.store ∷ map (λ (k : Content). store_of k.store) contents)
  pub held : new.held ≡ old.held
  pub contents_are : (number : ℕ) (k : Content) → slice_get contents number ≡ Some k
      → IsPartedOff resources parts old number k
  -- the others have what they had
  pub there : (number location : ℕ) → n < number → Contains (get_or parts number []) location
      → HasCell new.heap location
  pub variables : (r : ResId) (i : ℕ) → n ≤ r.0
      → store_of new.store (shared r i) ≡ store_of old.store (shared r i)
  pub own : (event index : ℕ) → store_of new.store (own event index)
      ≡ store_of old.store (own event index)
  pub wide : (count : ℕ) → HasWidth count old.heap → HasWidth count new.heap
