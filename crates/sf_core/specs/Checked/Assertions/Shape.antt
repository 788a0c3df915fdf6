-- The shape of a heap as a graph: which cells lead to which, and that it is finite and has no cycle.
-- Reynolds, "Separation Logic" (2002), on trees without sharing.
use Rattle.std.specs.Prelude.{◌≡◌, ◌⊎◌, ℕ, List, Contains, Some}
use Rattle.sf_base.specs.declared.ids.FieldId.{FieldId}
use Rattle.sf_base.specs.declared.value.Value.TheVariants.{Loc as loc}
use Rattle.sf_base.specs.HeapStore.{Cell, Heap}

-- all its cells are at the locations of some list
pub record IsFinite (heap : Heap) : Type 0 where
  pub locations : List ℕ
  pub all : (location : ℕ) (cell : Cell) → heap location ≡ Some cell → Contains locations location

-- a cell of the heap has that location in one of the two fields
pub record Points (left right : FieldId) (heap : Heap) (from to : ℕ) : Type 0 where
  pub cell : Cell
  pub here : heap from ≡ Some cell
  pub by : (cell left.0 ≡ loc to) ⊎ (cell right.0 ≡ loc to)

-- one or more steps along the two fields lead from one location to another
pub data Reaches (left right : FieldId) (heap : Heap) : ℕ → ℕ → Type 0 where
  step : {from to : ℕ} → Points left right heap from to → Reaches left right heap from to
  further : {from to : ℕ} (via : ℕ) → Points left right heap from via → Reaches left right heap via to
      → Reaches left right heap from to

-- each location is pointed to from one cell at most, and from there by one of the two fields
pub record IsUnshared (left right : FieldId) (heap : Heap) : Type 0 where
  pub one_cell : (from other to : ℕ) → Points left right heap from to → Points left right heap other to
      → from ≡ other
  pub one_field : (from to : ℕ) (cell : Cell) → heap from ≡ Some cell → cell left.0 ≡ loc to
      → cell right.0 ≡ loc to → ⊥

-- no location leads back to itself
abbrev pub IsAcyclic : (left right : FieldId) → Heap → Type 0
IsAcyclic left right heap = (location : ℕ) → Reaches left right heap location location → ⊥
