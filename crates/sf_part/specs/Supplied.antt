-- Supplied: that the units of parts are those of a tree of supplies, from which a numbered run
-- takes its numbers.
-- Fork-join parallelism, Lea, "A Java Fork/Join Framework" (2000): what a task has is split and
-- handed back.
use Rattle.std.specs.Prelude.{ℕ, cond, List, map, Some, None}
use Rattle.std.specs.Option.{option_map}
use Rattle.sf_base.specs.HeapStore.{Map}
use Rattle.sf_core.specs.Machine.Config.{Path}
use Rattle.sf_core.specs.Machine.Supplies.{Supply, has, lent, supply_at}
use Rattle.sf_core.specs.Machine.Whole.{Stand, running, waiting, Part, numbers, same_path, IsUnion}

-- what a task has of the units: these, or it has lent them to its children
pub data Share : Type 0 where
  units : List ℕ → Share
  lent_out : Share

-- what the task at the root of a tree of supplies has
abbrev pub share_of : Supply → Share
share_of (has us) = units us
share_of (lent one two) = lent_out

-- what the tasks have, by their paths
abbrev pub shares : Supply → Map Path Share
shares tree = λ path. option_map share_of (supply_at path tree)

-- what a task has that stands so, with these units in its supply
abbrev pub share_in : Stand → List ℕ → Share
share_in (running frames) us = units us
share_in (waiting frames) us = lent_out

-- what a part has, at its path
abbrev pub own_share : Part → Map Path Share
own_share a = λ path. cond (same_path path a.task) (Some (share_in a.stand (numbers a.supply))) None

-- Supplied: the tree of supplies is made of what the parts have
abbrev pub Supplied : List Part → Supply → Type 0
Supplied parts tree = IsUnion (shares tree) (map own_share parts)
