-- What is shared in the code as what is shared in the definitions.
-- Ordinary: finite maps as partial maps.
use Rattle.std.specs.Prelude.{ℕ, List, Option}
use Rattle.std.specs.Ordering.{nat_cmp}
use Rattle.std.specs.BTreeMap.{BTreeMap, get}
use Rattle.sf_base.specs.declared.ids.ResId.{ResId}
use Rattle.sf_base.specs.declared.path.Turn.{Turn}
use Rattle.sf_core.specs.Machine.Config.{Common, Path}
use Rattle.sf_heap.specs.Cells.{heap_of}
use Rattle.sf_frame.specs.declared.shared.Shared.{Shared}
use Rattle.sf_frame.specs.Stores.{store_of}

-- who holds a resource
abbrev pub held_of : BTreeMap ℕ (List Turn) → ResId → Option Path
held_of m r = get nat_cmp m r.0

-- what is shared
abbrev pub common_of : Shared → Common
common_of s = record { heap = heap_of s.heap; store = store_of s.store; held = held_of s.held }
