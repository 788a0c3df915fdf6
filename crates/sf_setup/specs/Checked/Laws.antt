-- The laws of tasks that go on alone: their events are steps of every whole that they belong to,
-- and what that comes to where the resources are set up.
-- Brookes (2007): parallel calls interleave as if the left child came first.
use Rattle.std.specs.Prelude.{◌≡◌, ℕ, true, List, [], ◌∷◌, ◌++◌}
use Rattle.sf_base.specs.declared.ids.ProcId.{ProcId}
use Rattle.sf_core.specs.Machine.Config.{Path, Config}
use Rattle.sf_core.specs.Machine.Reach.{Reach}
use Rattle.sf_core.specs.Machine.SpentSteps.{SpentSteps}
use Rattle.sf_core.specs.Machine.Step.{Event}
use Rattle.sf_core.specs.Machine.Whole.{Part, Content, Whole}
use Rattle.sf_core.specs.Program.Formed.{IsFormed}
use Rattle.sf_core.specs.Program.Syntax.{Program}
use Rattle.sf_foot.specs.declared.vars.Vars.{Vars}
use Rattle.sf_foot.specs.Starting.{StartsWith, store_of}
use Rattle.sf_heap.specs.Cells.{Cells, heap_of}
use Rattle.sf_own.specs.Checked.Accepted.{IsAccepted}
use Rattle.sf_part.specs.Checked.Laws.{Leads}
use Rattle.sf_part.specs.Going.{GoesTo}
use Rattle.sf_part.specs.Starts.{Starts}
use Rattle.sf_part.specs.Timed.{TimedPart, TimedContent}
use Rattle.sf_setup.specs.Draining.{Drains}
use Rattle.sf_setup.specs.Checked.Fresh.{BeginsFresh, Origin}
use Rattle.sf_setup.specs.Going.{GoesBy}
use Rattle.sf_setup.specs.Checked.SetUp.{HasSetUp, IsSetUp}
use Rattle.sf_setup.specs.Checked.Told.{IsLogUpTo}

-- a task that goes on alone goes on
unfoldable pub GoingAloneIsGoing : Type 0
GoingAloneIsGoing = (p : Program) (a b : TimedPart) (events : List Event) → GoesBy p a events b
    → GoesTo p a b

-- twice it goes on alone by both lists of events
unfoldable pub GoingAloneComposes : Type 0
GoingAloneComposes = (p : Program) (a b c : TimedPart) (events more : List Event)
    → GoesBy p a events b → GoesBy p b more c → GoesBy p a (events ++ more) c

-- its events are steps of every whole that its part belongs to
unfoldable pub EventsAloneAreSteps : Type 0
EventsAloneAreSteps = (p : Program) (a b : TimedPart) (events : List Event)
    (before after : List Part) (contents : List Content) (c : Config) → GoesBy p a events b
    → Whole (before ++ a.part ∷ after) contents c
    → Leads p events c (before ++ a.part ∷ after) (before ++ b.part ∷ after) contents

-- where it comes to a task that has no unit left, from where a run begins whose resources are still
-- to be set up, this one has spent its steps
unfoldable pub DrainedTasksHaveSpentSteps : Type 0
DrainedTasksHaveSpentSteps = (p : Program) (o : Origin) (a : TimedPart) (events : List Event)
    (path : Path) (given : ℕ) → BeginsFresh p o a → Drains p a events path given
    → SpentSteps p o.config o.base o.count path given

-- where the procedure that sets the resources up has run from there, they are set up
unfoldable pub ResourcesAreSetUp : Type 0
ResourcesAreSetUp = (p : Program) → IsAccepted p → (o : Origin) (a b : TimedPart)
    (contents : List TimedContent) → BeginsFresh p o a → HasSetUp p a contents b
    → IsSetUp p o contents b

-- and where a log is kept, it is of the events by which it has run, and none of these is later than
-- the clock
unfoldable pub SettingUpIsTold : Type 0
SettingUpIsTold = (p : Program) → IsFormed p → (o : Origin) (a b : TimedPart)
    (contents : List TimedContent) (d : Config) → BeginsFresh p o a → (h : HasSetUp p a contents b)
    → Reach p o.config (h.events ++ h.event ∷ []) d → a.keeps ≡ true
    → IsLogUpTo p o.config (h.events ++ h.event ∷ []) d b.log b.clock

-- where a run begins with a part from a start that is fresh
pub record FreshOrigin (p : Program) (f : ProcId) (vars : Vars) (heap : Cells)
    (parts : List (List ℕ)) (base count : ℕ) (with_ : StartsWith p f true vars heap parts)
    (o : Origin) : Type 0 where
  pub entry : o.entry ≡ f
  pub store : o.store ≡ store_of with_.beginning with_.procedure vars
  pub cells : o.heap ≡ heap_of heap
  pub config : o.config ≡ with_.config
  pub base_is : o.base ≡ base
  pub count_is : o.count ≡ count

-- the part with which a procedure starts there begins such a run, and there are no contents beside
-- it
unfoldable pub FirstPartsBeginFresh : Type 0
FirstPartsBeginFresh = (p : Program) (f : ProcId) (vars : Vars) (heap : Cells)
    (parts : List (List ℕ)) (base count : ℕ) (a : TimedPart) (contents : List TimedContent)
    → (with_ : StartsWith p f true vars heap parts)
    → Starts p f true vars heap base count a contents
    → (contents ≡ [])
    × (o : Origin) × BeginsFresh p o a × FreshOrigin p f vars heap parts base count with_ o
