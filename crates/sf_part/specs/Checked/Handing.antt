-- What is given up of all resources, one after the other: what is found of each, and what is left.
-- Ordinary: footprints in a whole heap that are disjoint, and unions of maps.
use Rattle.std.specs.Prelude.{◌≡◌, ◌+◌, ◌<◌, ◌≤◌, ℕ, true, List, [], ◌∷◌, ◌++◌, length, map, None, Some, reverse, is_some, nat_eq}
use Rattle.std.specs.FinMap.{get}
use Rattle.std.specs.List.{AllByRecursion, concat, slice_get}
use Rattle.std.specs.Set.{is_member}
use Rattle.sf_base.specs.declared.ids.ResId.{ResId}
use Rattle.sf_base.specs.declared.value.Value.{Value}
use Rattle.sf_base.specs.HeapStore.{Heap, Slot, Splits, Store, shared}
use Rattle.sf_core.specs.Assertions.Determined.{Determined}
use Rattle.sf_core.specs.Program.Formed.{variable_count}
use Rattle.sf_core.specs.Program.Syntax.{Program, Resource}
use Rattle.sf_foot.specs.declared.found.Found.{Found}
use Rattle.sf_foot.specs.Footprint.{IsFootprint}
use Rattle.sf_foot.specs.Found.{AreApart, HasNoneBeside}
use Rattle.sf_foot.specs.Starting.{HasWidth}
use Rattle.sf_frame.specs.Commons.{common_of}
use Rattle.sf_frame.specs.Stores.{store_of}
use Rattle.sf_frame.specs.declared.shared.Shared.{Shared}
use Rattle.sf_frame.specs.declared.store.Store.{Store as CodeStore}
use Rattle.sf_heap.specs.Cells.{AreAt, heap_of}
use Rattle.sf_part.specs.Checked.Sharing.{IsOwnOf, seen_in}
use Rattle.sf_part.specs.Contents.{content_of}
use Rattle.sf_part.specs.declared.content.Content.{Content as CodeContent}
use Rattle.sf_part.specs.Given.{IsContentOf}
use Rattle.sf_part.specs.Steps.{AreFrom}
use Rattle.sf_part.specs.Timed.{TimedContent}

-- the location is one of those that were found
abbrev pub IsTaken : Found → ℕ → Type 0
IsTaken found l = is_member nat_eq (concat found.parts.items) l ≡ true

-- the slot is that of a variable of a resource from that number on
abbrev pub IsFrom : ℕ → Slot → Type 0
IsFrom n slot = (r : ResId) × (i : ℕ) × (slot ≡ shared r i) × (n ≤ r.0)

-- the variables of the resources from that number on are there
abbrev pub HasVariables : Program → ℕ → Store → Type 0
HasVariables p n store = (r : ResId) (i : ℕ) → n ≤ r.0
    → i < variable_count (slice_get p.resources r.0) → is_some (store (shared r i)) ≡ true

-- the next resource's variables, and the footprint of its invariant beside the earlier ones
pub record IsNextShare (p : Program) (r : ResId) (s : Shared) (old new : Found) (store : CodeStore)
    : Type 0 where
  pub resource : Resource
  pub there : slice_get p.resources r.0 ≡ Some resource
  pub determined : Determined resource.invariant.level
  pub variables : IsOwnOf p r (common_of s).store (store_of store)
  pub at : List ℕ
  pub parts : new.parts.items ≡ old.parts.items ++ at ∷ []
  pub apart : AreApart s.heap new
  pub foot : IsFootprint resource.invariant.level (seen_in (store_of store)) (heap_of s.heap) at

-- it has none
abbrev pub HasNoNext : Program → ResId → Shared → Found → Type 0
HasNoNext p r s old = (resource : Resource) (part : Store)
    → slice_get p.resources r.0 ≡ Some resource
    → IsOwnOf p r (common_of s).store part
    → HasNoneBeside (concat old.parts.items) resource.invariant.level (seen_in part)
    (heap_of s.heap)

-- contents go out of a heap and a store one after the other, and the rest is left
abbrev pub Hands : Heap → Store → List TimedContent → Heap → Store → Type 0
Hands heap store [] rest left = (rest ≡ heap) × (left ≡ store)
Hands heap store (k ∷ ks) rest left = (less : Heap) × (fewer : Store)
    × Splits heap less k.content.heap × Splits store fewer k.content.store
    × Hands less fewer ks rest left

-- each has that stamp
abbrev pub HaveStamp : ℕ → List TimedContent → Type 0
HaveStamp stamp = AllByRecursion (λ (k : TimedContent). k.stamp ≡ stamp)

-- the contents of the code as contents of the definitions
abbrev pub timed_of : List CodeContent → List TimedContent
timed_of contents = map content_of contents

-- the contents of the resources from that number on went out, which come last first
pub record IsGivenFrom (p : Program) (n stamp : ℕ) (found : Found) (a : Shared)
    (out : List CodeContent) (b : Shared) : Type 0 where
  pub contents : List CodeContent
  pub is : out ≡ reverse contents
  pub in_order : AreFrom n (timed_of contents)
  pub each : n + length contents ≡ length p.resources
  pub exactly : AllByRecursion (λ (k : TimedContent). IsContentOf p k.content) (timed_of contents)
  pub hands : Hands (common_of a).heap (common_of a).store (timed_of contents) (common_of b).heap
      (common_of b).store
  pub stamps : HaveStamp stamp (timed_of contents)
  pub held : (common_of b).held ≡ (common_of a).held
  pub cells : (l : ℕ) → IsTaken found l → get b.heap l ≡ get a.heap l
  pub slots : (slot : Slot) → (IsFrom n slot → ⊥) → (common_of b).store slot ≡
      (common_of a).store slot
  pub width : (count : ℕ) → HasWidth count a.heap → HasWidth count b.heap
      × AllByRecursion (λ (k : CodeContent). HasWidth count k.heap) contents

-- nothing that has none of the cells found so far hands out just the contents from that number on
abbrev pub HasNoneFrom : Program → ℕ → Shared → Found → Type 0
HasNoneFrom p n s found = (heap other rest : Heap) (store left : Store) (ks : List TimedContent)
    → Splits (heap_of s.heap) heap other
    → ((l : ℕ) → IsTaken found l → heap l ≡ None)
    → ((slot : Slot) (v : Value) → store slot ≡ Some v → (common_of s).store slot ≡ Some v)
    → Hands heap store ks rest left → AreFrom n ks → n + length ks ≡ length p.resources
    → AllByRecursion (λ (k : TimedContent). IsContentOf p k.content) ks → ⊥

-- a share of a resource is out as a content
pub record LosesShare (r : ResId) (stamp : ℕ) (store : CodeStore) (at : List ℕ) (a : Shared)
    (k : CodeContent) (b : Shared) : Type 0 where
  pub resource : k.resource ≡ r
  pub stamp_is : k.stamp ≡ stamp
  pub is_share : store_of k.store ≡ store_of store
  pub heap : Splits (common_of a).heap (common_of b).heap (content_of k).content.heap
  pub cells : Splits (get a.heap) (get k.heap) (get b.heap)
  pub slots : Splits (common_of a).store (common_of b).store (content_of k).content.store
  pub held : (common_of b).held ≡ (common_of a).held
  pub at_is : AreAt at k.heap
