-- What the code says of the reads and writes of a task's next step.
-- O'Hearn (2007) for races; Brookes (2007) for the footprints of actions.
use Rattle.std.specs.Prelude.{◌≡◌, ◌↔◌, ◌⊎◌, List, [], ◌∷◌}
use Rattle.sf_base.specs.declared.ids.Thing.{Thing as CodeThing}
use Rattle.sf_base.specs.declared.ids.Thing.TheVariants.{Shared, Own, At}
use Rattle.sf_base.specs.HeapStore.{shared, own}
use Rattle.sf_core.specs.Machine.Config.{Task, Path, Config}
use Rattle.sf_core.specs.Machine.Enabled.{Thing, variable, cell, IsEnabled, Reads, Writes}
use Rattle.sf_core.specs.Machine.Next.{next}

-- the thing
abbrev pub thing_of : CodeThing → Thing
thing_of (Shared r i) = variable (shared r i)
thing_of (Own s) = variable (own s.event s.index)
thing_of (At location) = cell location

-- the thing is in the list
abbrev pub IsListed : List CodeThing → Thing → Type 0
IsListed [] thing = ⊥
IsListed (x ∷ xs) thing = (thing ≡ thing_of x) ⊎ IsListed xs thing

-- the lists have exactly the things that the next step of the task at the path reads, and those
-- that it writes, where there is such a task and it is enabled; else both are empty
pub record AreAccesses (c : Config) (path : Path) (reads writes : List CodeThing) : Type 0 where
  pub read : (task : Task) → IsEnabled c path task → (thing : Thing)
      → IsListed reads thing ↔ Reads c.common.store (next task) thing
  pub written : (task : Task) → IsEnabled c path task → (thing : Thing)
      → IsListed writes thing ↔ Writes c.common.store (next task) thing
  pub neither : ((task : Task) → IsEnabled c path task → ⊥) → (reads ≡ []) × (writes ≡ [])
