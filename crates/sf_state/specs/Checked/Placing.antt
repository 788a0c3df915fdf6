-- Cells that go from a map of one kind into a heap.
-- Ordinary: a map that is the disjoint union of two.
use Rattle.std.specs.Prelude.{◌≡◌, ℕ, List, None, true}
use Rattle.std.specs.BTreeMap.{BTreeMap, get}
use Rattle.std.specs.FinMap as fin
use Rattle.std.specs.Option.{option_or}
use Rattle.std.specs.Ordering.{nat_cmp}
use Rattle.sf_heap.specs.Cells.{AreAt, Cells, FieldValues}

-- in between: each cell is in the heap, at one of those locations, or is left
pub record Placing (all left : BTreeMap ℕ FieldValues) (heap : Cells) (at : List ℕ) : Type 0 where
  pub either : (l : ℕ) → get nat_cmp all l ≡ option_or (fin.get heap l) (get nat_cmp left l)
  pub apart : (l : ℕ) → fin.contains_key heap l ≡ true → get nat_cmp left l ≡ None
  pub placed : AreAt at heap
