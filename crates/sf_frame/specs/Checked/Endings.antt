-- The values that a run ends with, as lists by their places.
-- Ordinary: a row of values, each that of its slot.
use Rattle.std.specs.Prelude.{◌≡◌, ℕ, ◌<◌, List, length, slice_index_or, unwrap_or}
use Rattle.sf_base.specs.declared.value.Value.{Value}
use Rattle.sf_base.specs.declared.value.Value.TheVariants.{Nil as nil}
use Rattle.sf_base.specs.HeapStore.{Slot, Store}

-- there are so many values, each that of the slot of its place
pub record AreValues (store : Store) (slot : ℕ → Slot) (count : ℕ) (values : List Value) : Type 0 where
  pub length : length values ≡ count
  pub at : (k : ℕ) → k < count → slice_index_or values k nil ≡ unwrap_or (store (slot k)) nil
