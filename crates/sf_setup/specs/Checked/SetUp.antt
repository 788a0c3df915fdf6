-- SetUp: that the procedure which sets the resources up has run, and what is so then.
-- O'Hearn (2007): what runs first leaves each resource with its invariant, and keeps all else.
use Rattle.std.specs.Prelude.{◌≡◌, ◌≤◌, ◌+◌, false, List, [], ◌∷◌, length, Some}
use Rattle.std.specs.List.{AllByRecursion}
use Rattle.sf_base.specs.declared.ids.ResId.{ResId}
use Rattle.sf_base.specs.declared.limits.TheConstants.{STEPS}
use Rattle.sf_core.specs.Machine.Config.{Config}
use Rattle.sf_core.specs.Machine.Numbered.{NumberedFrom}
use Rattle.sf_core.specs.Machine.SpentSteps.{SpentSteps}
use Rattle.sf_core.specs.Machine.Step.{Event, procedure_at}
use Rattle.sf_core.specs.Machine.Supplies.{Supply, has, units}
use Rattle.sf_core.specs.Machine.Whole.{Whole, numbers}
use Rattle.sf_core.specs.Program.Syntax.{Procedure, Program}
use Rattle.sf_own.specs.Checked.Safe.{IsSafe}
use Rattle.sf_part.specs.Checked.LawsOfGoing.{IsPastSetup}
use Rattle.sf_part.specs.Given.{GivesEach, IsContentOf}
use Rattle.sf_part.specs.Keeps.{IsWaiting, Keeps}
use Rattle.sf_part.specs.Of.{IsOf}
use Rattle.sf_part.specs.Steps.{AreFrom}
use Rattle.sf_part.specs.Supplied.{Supplied}
use Rattle.sf_part.specs.Timed.{TimedPart, TimedContent, contents_of}
use Rattle.sf_safe.specs.Checked.LawsOfShares.{entry_of}
use Rattle.sf_setup.specs.declared.stop.SetUpStop.{SetUpStop}
use Rattle.sf_setup.specs.declared.stop.SetUpStop.TheVariants.{Steps, OutOfMemory}
use Rattle.sf_setup.specs.Checked.Fresh.{Origin}
use Rattle.sf_setup.specs.Going.{GoesBy}

-- HasSetUp: the task of the first part has gone on alone by these events, up to the return of the
-- procedure that sets the resources up, which has left just the content of each
pub record HasSetUp (p : Program) (a : TimedPart) (contents : List TimedContent) (b : TimedPart) :
    Type 0 where
  pub events : List Event
  pub between : TimedPart
  pub goes : GoesBy p a events between
  pub keeps : Keeps between
  pub of : IsOf p between.part
  pub event : Event
  pub gives : GivesEach p event between contents b

-- IsSetUp: a numbered run from where it began, of these events, leads to a configuration that the
-- part and the contents are, taken together; there is one content for each resource, in their
-- order, and each is just its resource's; and the part is the entry's, holds no resource, and goes
-- on from there
pub record IsSetUp (p : Program) (o : Origin) (contents : List TimedContent) (b : TimedPart) :
    Type 0 where
  pub events : List Event
  pub config : Config
  pub rest : Supply
  pub run : NumberedFrom p o.config (has (units o.base o.count)) events config rest
  pub whole : Whole (b.part ∷ []) (contents_of contents) config
  pub supplied : Supplied (b.part ∷ []) rest
  pub in_order : AreFrom 0 contents
  pub each : length contents ≡ length p.resources
  pub exactly : AllByRecursion (λ (k : TimedContent). IsContentOf p k.content) contents
  pub stamps : AllByRecursion (λ (k : TimedContent). k.stamp ≡ b.clock) contents
  pub task : b.part.task ≡ []
  pub runs : IsWaiting b.part.stand → ⊥
  pub idle : (r : ResId) → b.part.holds r ≡ false
  pub past : IsPastSetup p b.part
  -- what it has is enough for it, and at its end it owes what the entry's return owes
  pub procedure : Procedure
  pub there : procedure_at p o.entry ≡ Some procedure
  pub safe : IsSafe p (entry_of o.entry procedure o.store) b.part
  pub given : b.given ≡ o.count
  pub within : b.clock + length (numbers b.part.supply) ≤ STEPS

-- HasStopped: why they aren't set up: a task would go on and has used as many units as it was
-- given; or memory ran out
abbrev pub HasStopped : Program → Origin → SetUpStop → Type 0
HasStopped p o (Steps path used) = SpentSteps p o.config o.base o.count path used
HasStopped p o OutOfMemory = Unit {0}
