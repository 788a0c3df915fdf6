-- Laws of traces: each run has one; and what each event of a part has to do with others.
-- Mazurkiewicz, "Trace Theory" (1987); O'Hearn (2007) for the events at which tasks meet.
use Rattle.std.specs.Prelude.{◌≡◌, ◌⊎◌, ◌↔◌, ◌<◌, ◌++◌, ℕ, List, Contains}
use Rattle.std.specs.List.{sum_by}
use Rattle.std.specs.List.Sorted.{IsPermutation}
use Rattle.sf_base.specs.declared.ids.ResId.{ResId}
use Rattle.sf_core.specs.Machine.Config.{Config}
use Rattle.sf_core.specs.Machine.Next.{Next}
use Rattle.sf_core.specs.Machine.Reach.{Reach}
use Rattle.sf_core.specs.Machine.Step.{Event}
use Rattle.sf_core.specs.Program.Syntax.{Program}
use Rattle.sf_part.specs.Steps.{IsEntry, IsExit, IsFork, IsPrivate, IsSettling}
use Rattle.sf_part.specs.Timed.{Stamped}
use Rattle.sf_trace.specs.Logs.{FreesAll, IsLogOf, Precedes, Timed}
use Rattle.sf_trace.specs.Trace.{Act, Forks, Joins, Touches, Traces, events_in}

-- what its events lead to by a trace, they lead to
unfoldable pub TracesAreRuns : Type 0
TracesAreRuns = (p : Program) (acts : List Act) (c d : Config) → Traces p c acts d
    → Reach p c (events_in acts) d

-- each run has a trace
unfoldable pub RunsHaveTraces : Type 0
RunsHaveTraces = (p : Program) (events : List Event) (c d : Config) → Reach p c events d
    → (acts : List Act) × (events_in acts ≡ events) × Traces p c acts d

-- and one alone, which leads to one configuration
unfoldable pub TracesAreUnique : Type 0
TracesAreUnique = (p : Program) (acts others : List Act) (c d e : Config) → Traces p c acts d
    → Traces p c others e → events_in acts ≡ events_in others → (acts ≡ others) × (d ≡ e)

-- one trace after another is one
unfoldable pub TracesCompose : Type 0
TracesCompose = (p : Program) (acts more : List Act) (c d e : Config) → Traces p c acts d
    → Traces p d more e → Traces p c (acts ++ more) e

-- no children are made or joined, and the resources aren't set up
pub record MeetsNoChild (p : Program) (what : Next) : Type 0 where
  pub forks : Forks what → ⊥
  pub joins : Joins what → ⊥
  pub frees : FreesAll p what → ⊥

-- a task's own affair is no other's
unfoldable pub PrivateActsMeetNobody : Type 0
PrivateActsMeetNobody = (p : Program) (what : Next) → IsPrivate p what
    → ((r : ResId) → Touches what r → ⊥) × MeetsNoChild p what

-- the entry of a region, and the exit from one, touch that resource alone
unfoldable pub RegionsTouchOne : Type 0
RegionsTouchOne = (p : Program) (what : Next) (r : ResId) → IsEntry what r ⊎ IsExit what r
    → ((q : ResId) → Touches what q ↔ (r ≡ q)) × MeetsNoChild p what

-- a parallel call makes children, and touches no resource
unfoldable pub ParallelCallsFork : Type 0
ParallelCallsFork = (p : Program) (what : Next) → IsFork what
    → Forks what × ((r : ResId) → Touches what r → ⊥) × (Joins what → ⊥) × (FreesAll p what → ⊥)

-- the return that sets the resources up is the one that frees them
unfoldable pub SettlingFreesAll : Type 0
SettlingFreesAll = (p : Program) (what : Next) → IsSettling p what ↔ FreesAll p what

-- two logs that weigh the same, however entries are weighed, have the same entries, each as often
unfoldable pub EqualWeightsPermute : Type 0
EqualWeightsPermute = (xs ys : List Stamped)
    → ((weigh : Stamped → ℕ) → sum_by weigh xs ≡ sum_by weigh ys) → IsPermutation xs ys

-- the logs of two lists of events, the second of which goes on where the first has led to, are together
-- one of both, where of two whose order counts the one of the second has the greater stamp
unfoldable pub LogsCompose : Type 0
LogsCompose = (p : Program) (events more : List Event) (c d e : Config) (log others : List Stamped)
    → (one : IsLogOf p c events d log) → (two : IsLogOf p d more e others)
    → ((x y : Timed) → Contains one.timed x → Contains two.timed y → Precedes p x.act y.act → x.stamp < y.stamp)
    → IsLogOf p c (events ++ more) e (log ++ others)
