-- What a running program's configuration is: one that events lead to from a start.
-- O'Hearn (2007); Brookes (2007): every interleaving is one such list of events.
use Rattle.std.specs.Prelude.{◌≡◌, ℕ, Bool, List}
use Rattle.sf_base.specs.declared.ids.ProcId.{ProcId}
use Rattle.sf_base.specs.HeapStore.{Heap, Store}
use Rattle.sf_core.specs.Machine.Config.{Config}
use Rattle.sf_core.specs.Machine.Reach.{Reach}
use Rattle.sf_core.specs.Machine.Start.{Start}
use Rattle.sf_core.specs.Machine.Step.{Event, Step}
use Rattle.sf_core.specs.Program.Syntax.{Program}
use Rattle.sf_foot.specs.declared.vars.Vars.{Vars}
use Rattle.sf_foot.specs.Starting.{StartsWith}
use Rattle.sf_heap.specs.Cells.{Cells}
use Rattle.sf_machine.specs.Beginning.{Begins}

-- some events lead to the configuration from a start of some procedure of the program
pub record IsReached (p : Program) (c : Config) : Type 0 where
  pub procedure : ProcId
  pub store : Store
  pub heap : Heap
  pub start : Config
  pub starts : Start p procedure store heap start
  pub events : List Event
  pub reached : Reach p start events c

-- the configuration of a start is reached, by no event
unfoldable pub StartsAreReached : Type 0
StartsAreReached = (p : Program) (f : ProcId) (is_fresh : Bool) (vars : Vars) (heap : Cells)
    (parts : List (List ℕ))
    (c : Config) (starts : StartsWith p f is_fresh vars heap parts)
    (begins : Begins p f is_fresh vars heap c)
    → begins.beginning ≡ starts.beginning → IsReached p c

-- so is what a step leads to from one that is
unfoldable pub StepsAreReached : Type 0
StepsAreReached = (p : Program) (ev : Event) (c d : Config) → IsReached p c → Step p ev c d
    → IsReached p d
