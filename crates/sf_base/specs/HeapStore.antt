-- Heaps and stores, as partial maps; how a map splits in two; the separating conjunction.
-- Reynolds, "Separation Logic", 2002; O'Hearn, Reynolds, Yang, "Local Reasoning about Programs", 2001.
use Rattle.std.specs.Prelude.{◌≡◌, ◌≢◌, ℕ, Bool, cond, Option, Some, None, ◌==◌, ◌&&◌, false}
use Rattle.std.specs.Option.{option_or}
use Rattle.sf_base.specs.declared.ids.ResId.{ResId}
use Rattle.sf_base.specs.declared.value.Value.{Value}

-- a partial map: what is at each key, if anything is
abbrev pub Map : Type 0 → Type 0 → Type 0
Map K X = K → Option X

-- at most one of the two is there
abbrev pub Apart : {X : Type 0} → Option X → Option X → Type 0
Apart None y = Unit {0}
Apart (Some x) None = Unit {0}
Apart (Some x) (Some y) = ⊥

-- the whole is the disjoint union of the two parts: no key is in both, and each key is there as in the
-- one that has it
pub record Splits {K X : Type 0} (whole left right : Map K X) : Type 0 where
  pub apart : (key : K) → Apart (left key) (right key)
  pub is : (key : K) → whole key ≡ option_or (left key) (right key)

-- nothing is at any key
pub record IsEmpty {K X : Type 0} (map : Map K X) : Type 0 where
  pub none : (key : K) → map key ≡ None

-- a cell: a value for each field, by the field's number; at a number that the file has no field of,
-- nothing looks
abbrev pub Cell : Type 0
Cell = ℕ → Value

-- the cell with that value in that field
abbrev pub put_field : Cell → ℕ → Value → Cell
put_field cell field value = λ other. cond (other == field) value (cell other)

-- a heap: the cells by their locations. A `new` never gives 0; what is said of all heaps is said of
-- those without 0 too
abbrev pub Heap : Type 0
Heap = Map ℕ Cell

-- where a store keeps a value: a variable of a resource, or the variable of that index that an event made
pub data Slot : Type 0 where
  shared : ResId → (variable : ℕ) → Slot
  own : (event index : ℕ) → Slot

-- whether two slots are one
abbrev pub same_slot : Slot → Slot → Bool
same_slot (shared r i) (shared s j) = (r.0 == s.0) && (i == j)
same_slot (own e i) (own f j) = (e == f) && (i == j)
same_slot (shared r i) (own f j) = false
same_slot (own e i) (shared s j) = false

-- a store: the values by their slots
abbrev pub Store : Type 0
Store = Map Slot Value

-- exactly one cell, at that location
pub record IsOne (location : ℕ) (cell : Cell) (heap : Heap) : Type 0 where
  pub here : heap location ≡ Some cell
  pub elsewhere : (other : ℕ) → other ≢ location → heap other ≡ None

-- the heap splits into two disjoint parts, one for each: the separating conjunction
pub record ◌⋆◌ (P Q : Heap → Type 0) (heap : Heap) : Type 0 where
  pub left : Heap
  pub right : Heap
  pub splits : Splits heap left right
  pub first : P left
  pub second : Q right

infixr 40 ◌⋆◌
