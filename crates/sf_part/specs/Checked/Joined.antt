-- What becomes of a part that takes back what its two children hold.
-- Ordinary: unions of maps.
use Rattle.std.specs.Prelude.{◌≡◌, ◌+◌, ◌++◌, ◌∷◌, ℕ, [], map, max}
use Rattle.sf_core.specs.Machine.Whole.{running, numbers, IsUnion}
use Rattle.sf_foot.specs.Starting.{HasWidth}
use Rattle.sf_frame.specs.Commons.{common_of}
use Rattle.sf_frame.specs.declared.shared.Shared.{Shared}
use Rattle.sf_heap.specs.Cells.{Cells, heap_of}
use Rattle.sf_part.specs.declared.part.Part.{Part}
use Rattle.sf_part.specs.Of.{frames_in}
use Rattle.sf_part.specs.Parts.{entry_of}
use Rattle.sf_part.specs.Stands.{stand_in}
use Rattle.sf_part.specs.Timed.{noted}

-- a heap has the cells of two others beside its own
pub record TakesCells (before left right after : Cells) : Type 0 where
  pub union : IsUnion (heap_of after) (heap_of before ∷ heap_of left ∷ heap_of right ∷ [])
  pub width : (count : ℕ) → HasWidth count before → HasWidth count left → HasWidth count right
      → HasWidth count after

-- what is shared has the cells and slots of two others beside its own
pub record TakesBack (before left right after : Shared) : Type 0 where
  pub cells : TakesCells before.heap left.heap right.heap after.heap
  pub store : IsUnion (common_of after).store
      ((common_of before).store ∷ (common_of left).store ∷ (common_of right).store ∷ [])
  pub held : (common_of after).held ≡ (common_of before).held

-- the part goes on with all that two children have
pub record IsJoined (number : ℕ) (one two a b : Part) : Type 0 where
  pub units : numbers one.supply ++ numbers two.supply ≡ number ∷ numbers b.supply
  pub task : b.task ≡ a.task
  pub stand : stand_in b.stand ≡ running (frames_in (stand_in a.stand))
  pub heap : IsUnion (common_of b.shared).heap
      ((common_of a.shared).heap ∷ (common_of one.shared).heap ∷ (common_of two.shared).heap ∷ [])
  pub store : IsUnion (common_of b.shared).store ((common_of a.shared).store
      ∷ (common_of one.shared).store ∷ (common_of two.shared).store ∷ [])
  pub held : (common_of b.shared).held ≡ (common_of a.shared).held
  pub clock : b.clock ≡ max a.clock (max one.clock two.clock) + 1
  pub keeps : b.keeps ≡ a.keeps
  pub given : b.given ≡ a.given
  pub log : map entry_of b.log.items ≡ (map entry_of a.log.items
      ++ (map entry_of one.log.items ++ map entry_of two.log.items))
      ++ noted a.keeps (record { stamp = b.clock; task = a.task; number = number })
