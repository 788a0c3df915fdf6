-- The pieces of a part of the code, as the part of the definitions.
-- Ordinary: each as what it stands for.
use Rattle.std.specs.Prelude.{ℕ, Bool, List, map, is_some}
use Rattle.sf_core.specs.Machine.Config.{Path}
use Rattle.sf_core.specs.Machine.Whole.{Range}
use Rattle.sf_frame.specs.Commons.{held_of}
use Rattle.sf_frame.specs.declared.shared.Shared.{Shared}
use Rattle.sf_frame.specs.Stores.{store_of}
use Rattle.sf_heap.specs.Cells.{heap_of}
use Rattle.sf_part.specs.declared.log.Stamped.{Stamped as CodeStamped}
use Rattle.sf_part.specs.declared.stand.Stand.{Stand as CodeStand}
use Rattle.sf_part.specs.Stands.{stand_in}
use Rattle.sf_part.specs.Timed.{Stamped, TimedPart}

-- an entry of a log
abbrev pub entry_of : CodeStamped → Stamped
entry_of s = record { stamp = s.stamp; task = s.task; number = s.number }

-- the part of a task that stands so, with what is its own, those units, and its clock and log
abbrev pub part_with : Path → CodeStand → Shared → List Range → (clock : ℕ) → (keeps : Bool)
    → List CodeStamped → (given : ℕ) → TimedPart
part_with task stand shared supply clock keeps log given = record {
  part = record {
    task = task;
    stand = stand_in stand;
    heap = heap_of shared.heap;
    store = store_of shared.store;
    holds = λ r. is_some (held_of shared.held r);
    supply = supply;
  };
  clock = clock;
  keeps = keeps;
  log = map entry_of log;
  given = given;
}
