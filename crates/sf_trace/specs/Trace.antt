-- Trace: the events of a run, each with what its task does by it, and the pairs whose order counts.
-- Lamport, "Time, Clocks, and the Ordering of Events in a Distributed System" (1978): happened
-- before; Mazurkiewicz, "Trace Theory" (1987): events that depend on one another.
use Rattle.std.specs.Prelude.{◌≡◌, ◌⊎◌, List, [], ◌∷◌, ◌++◌, map}
use Rattle.sf_base.specs.declared.ids.ResId.{ResId}
use Rattle.sf_base.specs.declared.path.Turn.{Turn}
use Rattle.sf_core.specs.Machine.Config.{Path, Config}
use Rattle.sf_core.specs.Machine.Next.{Next, does, leaves, joins, next}
use Rattle.sf_core.specs.Machine.Step.{Event, Step}
use Rattle.sf_core.specs.Program.Syntax.{Command, fork, with, Program}

-- an event, with what its task does by it
pub record Act : Type 0 where
  pub event : Event
  pub what : Next

-- the events alone
abbrev pub events_in : List Act → List Event
events_in acts = map (λ (a : Act). a.event) acts

-- Traces: the events, one after the other, lead from the one configuration to the other, and by each
-- its task does that
abbrev pub Traces : Program → Config → List Act → Config → Type 0
Traces p c [] d = d ≡ c
Traces p c (a ∷ acts) d = (between : Config) × (s : Step p a.event c between)
    × (next s.from ≡ a.what) × Traces p between acts d

-- the command enters a region of the resource
abbrev pub IsRegion : Command → ResId → Type 0
IsRegion (with place q test body) r = q ≡ r
IsRegion _ r = ⊥

-- a region of the resource is entered or left
abbrev pub Touches : Next → ResId → Type 0
Touches (does f below c rest) r = IsRegion c r
Touches (leaves f below q rest) r = q ≡ r
Touches _ r = ⊥

-- the command is a parallel call
abbrev pub IsParallel : Command → Type 0
IsParallel (fork place c d) = Unit {0}
IsParallel _ = ⊥

-- two children are made
abbrev pub Forks : Next → Type 0
Forks (does f below c rest) = IsParallel c
Forks _ = ⊥

-- two children that have ended are joined
abbrev pub Joins : Next → Type 0
Joins (joins frames one two) = Unit {0}
Joins _ = ⊥

-- the second path is that of a child of the first one's task
abbrev pub IsChild : Path → Path → Type 0
IsChild parent child = (turn : Turn) × (child ≡ parent ++ turn ∷ [])

-- Depends: the order of two counts, the first being the earlier: both are of one task; both enter or
-- leave a region of one resource; the earlier makes the children of which the later one's task is
-- one; or the later joins those of which the earlier one's task is one
abbrev pub Depends : Act → Act → Type 0
Depends a b = (a.event.task ≡ b.event.task)
    ⊎ (((r : ResId) × Touches a.what r × Touches b.what r)
    ⊎ ((Forks a.what × IsChild a.event.task b.event.task)
    ⊎ (Joins b.what × IsChild b.event.task a.event.task)))
