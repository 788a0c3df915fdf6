-- What is found for the children of a fork: the variables of the first frame of each, and the
-- footprint of its procedure's precondition.
-- Ordinary: restrictions of maps, and footprints in a whole heap that are disjoint.
use Rattle.std.specs.Prelude.{◌≡◌, ◌↔◌, ◌<◌, ◌++◌, ℕ, true, false, List, [], ◌∷◌, All, Contains, Some, is_some, unwrap_or}
use Rattle.std.specs.List.{concat}
use Rattle.sf_base.specs.declared.ids.ProcId.{ProcId}
use Rattle.sf_base.specs.declared.ids.ResId.{ResId}
use Rattle.sf_base.specs.declared.ids.Var.{Var}
use Rattle.sf_base.specs.declared.ids.Var.TheVariants.{Own, Shared}
use Rattle.sf_base.specs.declared.value.Value.{Value}
use Rattle.sf_base.specs.declared.value.Value.TheVariants.{Nil as nil}
use Rattle.sf_base.specs.HeapStore.{Apart, Heap, Slot, Store, shared}
use Rattle.sf_core.specs.Assertions.Determined.{Determined}
use Rattle.sf_core.specs.Assertions.Sat.{Foot, value}
use Rattle.sf_core.specs.Machine.Config.{Common, Frame}
use Rattle.sf_core.specs.Machine.Step.{procedure_at}
use Rattle.sf_core.specs.Program.Init.{sets_up}
use Rattle.sf_core.specs.Program.Syntax.{Procedure, Program}
use Rattle.sf_foot.specs.declared.found.Found.{Found}
use Rattle.sf_foot.specs.Footprint.{IsFootprint}
use Rattle.sf_foot.specs.Found.{AreApart, HasNoneBeside}
use Rattle.sf_frame.specs.Commons.{common_of}
use Rattle.sf_frame.specs.declared.shared.Shared.{Shared as CodeShared}
use Rattle.sf_frame.specs.declared.store.Store.{Store as CodeStore}
use Rattle.sf_frame.specs.Stores.{store_of}
use Rattle.sf_heap.specs.Cells.{HasCell, heap_of}
use Rattle.sf_part.specs.declared.share.Share.{Share}
use Rattle.sf_part.specs.Lent.{IsNamed}
use Rattle.sf_part.specs.Of.{IsVariable, inside}

-- the value of a variable of a frame in a store, nil where it isn't there
abbrev pub seen_by : Frame → Store → Var → Value
seen_by f store x = unwrap_or (store (f.fixed.slots x)) nil

-- the frame is a first one of that procedure, inside of no region
pub record IsFirstOf (p : Program) (callee : ProcId) (f : Frame) (g : Procedure) : Type 0 where
  pub there : procedure_at p callee ≡ Some g
  pub callee_is : f.fixed.procedure ≡ callee
  pub names : (r : ResId) (i : ℕ) → f.fixed.slots (Shared r i) ≡ shared r i
  pub outside : inside f.todo ≡ []
  pub no_init : sets_up p callee ≡ false

-- the slot is that of one of the first own variables of the frame, of so many
abbrev pub IsOwnSlot : Frame → (count : ℕ) → Slot → Type 0
IsOwnSlot f count slot = (n : ℕ) × (n < count) × (slot ≡ f.fixed.slots (Own n))

-- the slot is that of one of these variables of the frame
abbrev pub IsSlotOf : Frame → List Var → Slot → Type 0
IsSlotOf f xs slot = (x : Var) × Contains xs x × (slot ≡ f.fixed.slots x)

-- the variables of the frame are there
abbrev pub HasVariablesOf : Program → Frame → Procedure → Store → Type 0
HasVariablesOf p f g store = (x : Var) → IsVariable p f g x
    → is_some (store (f.fixed.slots x)) ≡ true

-- the part has just the variables of the frame, with the values that they have in the whole
pub record HasJust (p : Program) (f : Frame) (g : Procedure) (whole part : Store) : Type 0 where
  pub variables : (slot : Slot) → (is_some (part slot) ≡ true) ↔ IsNamed p f g slot
  pub values : (slot : Slot) (v : Value) → part slot ≡ Some v → whole slot ≡ Some v

-- no slot is in both
abbrev pub NoneInBoth : (one other : Store) → Type 0
NoneInBoth one other = (slot : Slot) → Apart (one slot) (other slot)

-- the next child's variables, beside those that are taken, and the footprint of its precondition
-- beside those found so far
pub record IsNextLent (p : Program) (f : Frame) (g : Procedure) (s : CodeShared) (taken : Store)
    (old new : Found) (store : CodeStore) : Type 0 where
  pub determined : Determined g.pre.level
  pub just : HasJust p f g (common_of s).store (store_of store)
  pub beside : NoneInBoth taken (store_of store)
  pub at : List ℕ
  pub parts : new.parts.items ≡ old.parts.items ++ at ∷ []
  pub apart : AreApart s.heap new
  pub foot : IsFootprint g.pre.level (seen_by f (store_of store)) (heap_of s.heap) at

-- it has none
abbrev pub HasNoNextLent : Program → Frame → Procedure → CodeShared → (taken : Store)
    → (old : Found) → Type 0
HasNoNextLent p f g s taken old = (part : Store) → HasJust p f g (common_of s).store part
    → NoneInBoth taken part
    → HasNoneBeside (concat old.parts.items) g.pre.level (seen_by f part) (heap_of s.heap)

-- the shares of the two children of what is there
pub record AreLent (p : Program) (f h : Frame) (g k : Procedure) (s : CodeShared)
    (one two : Share) : Type 0 where
  pub one_just : HasJust p f g (common_of s).store (store_of one.store)
  pub two_just : HasJust p h k (common_of s).store (store_of two.store)
  pub slots : NoneInBoth (store_of one.store) (store_of two.store)
  pub one_cells : All (HasCell s.heap) one.at
  pub two_cells : All (HasCell s.heap) two.at
  pub cells : (l : ℕ) → Contains one.at l → Contains two.at l → ⊥
  pub one_foot : IsFootprint g.pre.level (seen_by f (store_of one.store)) (heap_of s.heap) one.at
  pub two_foot : IsFootprint k.pre.level (seen_by h (store_of two.store)) (heap_of s.heap) two.at

-- of what is there nothing is the shares of the two
abbrev pub HasNoneLent : Program → (f h : Frame) → (g k : Procedure) → Common → Type 0
HasNoneLent p f h g k s = (one two : Store) (cells others : Heap) → HasJust p f g s.store one
    → HasJust p h k s.store two → NoneInBoth one two
    → Foot g.pre.level (value (seen_by f one)) s.heap cells
    → Foot k.pre.level (value (seen_by h two)) s.heap others
    → ((l : ℕ) → Apart (cells l) (others l)) → ⊥
