-- What the whole of setting up comes to.
-- Names: `up-WHAT`.
use Rattle.std.specs.Prelude.{◌≡◌, List}
use Rattle.std.proofs.Common.{◌∙◌}
use Rattle.sf_core.specs.Machine.Step.{Event}
use Rattle.sf_core.specs.Program.Syntax.{Program}
use Rattle.sf_part.specs.declared.part.Part.{Part}
use Rattle.sf_part.specs.Given.{GivesEach}
use Rattle.sf_part.specs.PartView.{part_of}
use Rattle.sf_part.specs.Timed.{TimedPart, TimedContent}
use Rattle.sf_setup.proofs.Goes.{keeps-log}
use Rattle.sf_setup.proofs.Meeting.{drained-later}
use Rattle.sf_setup.specs.Checked.Alone.{HasCome, HasDrained}
use Rattle.sf_setup.specs.Checked.Laws.{DrainedTasksHaveSpentSteps}
use Rattle.sf_setup.specs.declared.stop.SetUpStop.{SetUpStop}
use Rattle.sf_setup.specs.declared.stop.SetUpStop.TheVariants.{Steps, OutOfMemory}
use Rattle.sf_setup.specs.Checked.Fresh.{BeginsFresh, Origin}
use Rattle.sf_setup.specs.Checked.SetUp.{HasSetUp, HasStopped}

-- it has run, with the return
pub up-has : (p : Program) (a b : Part) (contents : List TimedContent) (c : TimedPart)
    → HasCome p a b → (event : Event) → GivesEach p event (part_of b) contents c
    → HasSetUp p (part_of a) contents c
up-has p a b contents c h event gives = record {
  events = h.events;
  between = part_of b;
  goes = h.goes;
  keeps = h.keeps;
  of = h.alone.of.is;
  event = event;
  gives = gives;
}

-- a log is kept after as before
pub up-keeps : (p : Program) (a b : Part) (contents : List TimedContent) (c : TimedPart)
    → HasCome p a b → (event : Event) → GivesEach p event (part_of b) contents c
    → c.keeps ≡ (part_of a).keeps
up-keeps p a b contents c h event gives =
    (gives.settles.notes).keeps ∙ keeps-log p (part_of a) (part_of b) h.events h.goes

-- or stops before
pub up-stopped : DrainedTasksHaveSpentSteps → (p : Program) (o : Origin) (a : TimedPart)
    (stop : SetUpStop) → BeginsFresh p o a → HasDrained p a stop → HasStopped p o stop
unfolding DrainedTasksHaveSpentSteps
up-stopped law p o a (Steps path given) x (events, d) = law p o a events path given x d
up-stopped law p o a OutOfMemory x d = tt

-- at the return too
pub up-stopped_later : DrainedTasksHaveSpentSteps → (p : Program) (o : Origin) (a b : Part)
    (stop : SetUpStop) → HasCome p a b → BeginsFresh p o (part_of a)
    → HasDrained p (part_of b) stop → HasStopped p o stop
up-stopped_later law p o a b stop h x d =
    up-stopped law p o (part_of a) stop x
    (drained-later p (part_of a) (part_of b) h.events stop h.goes d)
