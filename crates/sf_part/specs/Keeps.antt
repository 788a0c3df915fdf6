-- Keeps: what every part keeps of its units, its clock and its log, by its type.
-- Permissions that are owned and never copied, Boyland (2003); clocks, Lamport (1978).
use Rattle.std.specs.Prelude.{◌≡◌, ◌<◌, ◌≤◌, ◌==◌, ℕ, false, [], Contains, is_some}
use Rattle.std.specs.List.{count_by}
use Rattle.sf_base.specs.HeapStore.{Heap, Store, own}
use Rattle.sf_core.specs.Machine.Whole.{Stand, running, waiting, numbers}
use Rattle.sf_part.specs.Timed.{IsInTime, TimedPart}

-- a number that is no location of the heap, nor the number of a slot of the store, and not that of
-- the start
pub record IsUnmade (cells : Heap) (slots : Store) (number : ℕ) : Type 0 where
  pub positive : 0 < number
  pub heap : is_some (cells number) ≡ false
  pub store : (index : ℕ) → is_some (slots (own number index)) ≡ false

-- the task waits
abbrev pub IsWaiting : Stand → Type 0
IsWaiting (running frames) = ⊥
IsWaiting (waiting frames) = Unit {0}

-- Keeps: the units differ, none is made yet, a task that waits has none, and the part is in time
pub record Keeps (a : TimedPart) : Type 0 where
  pub once : (number : ℕ) → count_by (λ n. n == number) (numbers a.part.supply) ≤ 1
  pub unmade : (number : ℕ) → Contains (numbers a.part.supply) number
      → IsUnmade a.part.heap a.part.store number
  pub waiting : IsWaiting a.part.stand → numbers a.part.supply ≡ []
  pub time : IsInTime a
