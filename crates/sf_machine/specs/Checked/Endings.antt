-- The values that a run ends with, as lists by their places.
-- Ordinary: a table of so many rows, each with its length.
use Rattle.std.specs.Prelude.{◌≡◌, ℕ, List, length, slice_get, get_or, Some, Vec}
use Rattle.std.specs.declared.alloc.Global.{Global}
use Rattle.sf_base.specs.declared.ids.ResId.{ResId}
use Rattle.sf_base.specs.declared.value.Value.{Value}
use Rattle.sf_base.specs.HeapStore.{Store, shared}
use Rattle.sf_frame.specs.Checked.Endings.{AreValues}

-- there are so many rows, each with the values of the variables of the resource of its place
pub record AreRows (store : Store) (counts : List ℕ) (n : ℕ) (rows : List (Vec Value Global)) : Type 0 where
  pub length : length rows ≡ n
  pub at : (r : ResId) (row : Vec Value Global) → slice_get rows r.0 ≡ Some row
      → AreValues store (shared r) (get_or counts r.0 0) row.items
