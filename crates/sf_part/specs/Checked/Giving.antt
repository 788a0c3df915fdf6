-- What becomes of a part that gives a resource's content up.
-- Ordinary: unions of maps.
use Rattle.std.specs.Prelude.{◌≡◌, ◌+◌, ◌==◌, ◌++◌, ℕ, cond, drop, map, None}
use Rattle.sf_base.specs.declared.ids.ResId.{ResId}
use Rattle.sf_base.specs.HeapStore.{Splits}
use Rattle.sf_core.specs.Machine.Whole.{running, numbers}
use Rattle.sf_frame.specs.Commons.{common_of}
use Rattle.sf_frame.specs.Checked.Frames.{moved}
use Rattle.sf_frame.specs.declared.frame.Way.TheVariants.{Past}
use Rattle.sf_frame.specs.declared.stack.Change.TheVariants.{GoOn}
use Rattle.sf_frame.specs.Stores.{store_of}
use Rattle.sf_heap.specs.Cells.{AreAt}
use Rattle.sf_part.specs.Contents.{content_of}
use Rattle.sf_part.specs.declared.content.Content.{Content}
use Rattle.sf_part.specs.declared.part.Part.{Part}
use Rattle.sf_part.specs.declared.share.Share.{Share}
use Rattle.sf_part.specs.Of.{frames_in}
use Rattle.sf_part.specs.Parts.{entry_of}
use Rattle.sf_part.specs.Stands.{stand_in}
use Rattle.sf_part.specs.Timed.{noted}

-- the content is that share of the resource, and the part is after the exit, without it
pub record IsGivenUp (number : ℕ) (r : ResId) (share : Share) (k : Content) (a b : Part) : Type 0
  where
    pub resource : k.resource ≡ r
    pub is_share : store_of k.store ≡ store_of share.store
    pub at : AreAt share.at k.heap
    pub stamp : k.stamp ≡ b.clock
    pub task : b.task ≡ a.task
    pub stand : stand_in b.stand ≡ running (moved (GoOn Past) (frames_in (stand_in a.stand)))
    pub heap : Splits (common_of a.shared).heap (common_of b.shared).heap
        (content_of k).content.heap
    pub store : Splits (common_of a.shared).store (common_of b.shared).store
        (content_of k).content.store
    pub held : (common_of b.shared).held
        ≡ (λ q. cond (q.0 == r.0) None ((common_of a.shared).held q))
    pub supply : numbers b.supply ≡ drop 1 (numbers a.supply)
    pub clock : b.clock ≡ a.clock + 1
    pub keeps : b.keeps ≡ a.keeps
    pub given : b.given ≡ a.given
    pub blank : b.blank ≡ a.blank
    pub log : map entry_of b.log.items ≡ map entry_of a.log.items
        ++ noted a.keeps (record { stamp = b.clock; task = a.task; number = number })
