-- Stopping: what it says that a run stops before its end.
-- Ordinary: units are used up, or tries are; nothing is said of whether the run would have ended.
use Rattle.std.specs.Prelude.{◌≡◌, ℕ}
use Rattle.sf_base.specs.declared.ids.ResId.{ResId}
use Rattle.sf_core.specs.Machine.Config.{Path}
use Rattle.sf_region.specs.declared.views.Begun.{Begun}
use Rattle.sf_region.specs.Drained.{Drained}
use Rattle.sf_region.specs.Receipt.{Receipt}
use Rattle.sf_threads.specs.declared.stop.Stop.{Stop}
use Rattle.sf_threads.specs.declared.stop.Stop.TheVariants.{OutOfMemory, Steps, Waits}

-- the receipt is of a table that began so, for so many misses of that task at that resource
pub record IsReceiptOf (b : Begun) (path : Path) (r : ResId) (misses : ℕ) (m : Receipt) : Type 0
  where
    pub begun : m.begun ≡ b
    pub task : m.task ≡ path
    pub resource : m.resource ≡ r
    pub count : m.count ≡ misses

-- what a stop says of a run at a table that began so, where a task tries a region so often: a task
-- that has used its units is there in some list of events from where the table began, would go on,
-- and has used just what it was given; one that waits has a receipt for as many misses
abbrev pub Says : Begun → (waits : ℕ) → Stop → Type 0
Says b waits (Steps path given) = Drained b path given
Says b waits (Waits path r m) = IsReceiptOf b path r waits m
Says b waits OutOfMemory = Unit {0}
