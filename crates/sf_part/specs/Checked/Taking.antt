-- What becomes of a part that takes a content in.
-- Ordinary: unions of maps.
use Rattle.std.specs.Prelude.{◌≡◌, ◌+◌, ◌==◌, ◌++◌, ℕ, cond, drop, map, max, true, List, Some, is_some}
use Rattle.sf_base.specs.HeapStore.{Slot, Splits}
use Rattle.sf_core.specs.Machine.Whole.{running, numbers}
use Rattle.sf_frame.specs.Commons.{common_of}
use Rattle.sf_frame.specs.Checked.Frames.{moved}
use Rattle.sf_frame.specs.declared.frame.Way.TheVariants.{Into}
use Rattle.sf_frame.specs.declared.shared.Shared.{Shared}
use Rattle.sf_frame.specs.declared.spot.Spot.{Spot}
use Rattle.sf_frame.specs.declared.stack.Change.TheVariants.{GoOn}
use Rattle.sf_frame.specs.Stores.{is_among, store_of}
use Rattle.sf_part.specs.Contents.{content_of}
use Rattle.sf_part.specs.declared.content.Content.{Content}
use Rattle.sf_part.specs.declared.part.Part.{Part}
use Rattle.sf_part.specs.Of.{frames_in}
use Rattle.sf_part.specs.Parts.{entry_of}
use Rattle.sf_part.specs.Stands.{stand_in}
use Rattle.sf_part.specs.Timed.{noted}

-- each slot of the content is one of those
abbrev pub HasSpots : List Spot → Content → Type 0
HasSpots spots k = (slot : Slot) → is_some (store_of k.store slot) ≡ true
    → is_among spots slot ≡ true

-- what is shared has a content's cells and slots beside its own
pub record TakesIn (before : Shared) (k : Content) (after : Shared) : Type 0 where
  pub heap : Splits (common_of after).heap (common_of before).heap (content_of k).content.heap
  pub store : Splits (common_of after).store (common_of before).store (content_of k).content.store
  pub held : (common_of after).held ≡ (common_of before).held

-- the part is inside of a region of the content's resource, with the content
pub record IsEntered (number : ℕ) (k : Content) (a b : Part) : Type 0 where
  pub task : b.task ≡ a.task
  pub stand : stand_in b.stand ≡ running (moved (GoOn Into) (frames_in (stand_in a.stand)))
  pub heap : Splits (common_of b.shared).heap (common_of a.shared).heap (content_of k).content.heap
  pub store : Splits (common_of b.shared).store (common_of a.shared).store
      (content_of k).content.store
  pub held : (common_of b.shared).held
      ≡ (λ q. cond (q.0 == k.resource.0) (Some a.task) ((common_of a.shared).held q))
  pub supply : numbers b.supply ≡ drop 1 (numbers a.supply)
  pub clock : b.clock ≡ max a.clock k.stamp + 1
  pub keeps : b.keeps ≡ a.keeps
  pub given : b.given ≡ a.given
  pub blank : b.blank ≡ a.blank
  pub log : map entry_of b.log.items ≡ map entry_of a.log.items
      ++ noted a.keeps (record { stamp = b.clock; task = a.task; number = number })
