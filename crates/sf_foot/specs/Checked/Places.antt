-- The part of a heap at some locations.
-- Ordinary: a partial map restricted to a set of keys.
use Rattle.std.specs.Prelude.{◌==◌, cond, ℕ, List, None}
use Rattle.std.specs.List.{list_any}
use Rattle.sf_base.specs.HeapStore.{Heap}

-- that part of the heap
abbrev pub part_at : List ℕ → Heap → Heap
part_at locations heap location = cond (list_any (λ l. location == l) locations) (heap location) None
