-- What is there where the table of a run's resources begins.
-- O'Hearn (2007): each resource has its invariant, and the program's task what is its own.
use Rattle.std.specs.Prelude.{◌≡◌, ◌≤◌, ℕ, Bool, true, false, List, [], ◌∷◌, length, map}
use Rattle.std.specs.List.{AllByRecursion}
use Rattle.sf_base.specs.declared.ids.ProcId.{ProcId}
use Rattle.sf_base.specs.declared.ids.ResId.{ResId}
use Rattle.sf_base.specs.declared.limits.TheConstants.{STEPS}
use Rattle.sf_core.specs.Machine.Config.{Config}
use Rattle.sf_core.specs.Machine.Numbered.{NumberedFrom}
use Rattle.sf_core.specs.Machine.SpentSteps.{SpentSteps}
use Rattle.sf_core.specs.Machine.Step.{Event}
use Rattle.sf_core.specs.Machine.Supplies.{Supply, has, units}
use Rattle.sf_core.specs.Machine.Whole.{Whole, numbers}
use Rattle.sf_core.specs.Program.ProgramView.{program_of}
use Rattle.sf_core.specs.Program.Syntax.{Program}
use Rattle.sf_foot.specs.declared.vars.Vars.{Vars}
use Rattle.sf_heap.specs.Cells.{Cells}
use Rattle.sf_machine.specs.Beginning.{Begins}
use Rattle.sf_own.specs.Checked.Safe.{IsSafe}
use Rattle.sf_part.specs.Checked.LawsOfGoing.{IsPastSetup}
use Rattle.sf_part.specs.Contents.{IsContentIn, content_of}
use Rattle.sf_part.specs.declared.content.Content.{Content}
use Rattle.sf_part.specs.declared.part.Part.{Part}
use Rattle.sf_part.specs.Given.{IsContentOf}
use Rattle.sf_part.specs.PartView.{IsPartOf, part_of}
use Rattle.sf_part.specs.Steps.{AreFrom}
use Rattle.sf_part.specs.Supplied.{Supplied}
use Rattle.sf_region.specs.declared.views.Begun.{Begun}
use Rattle.sf_region.specs.Waits.{contents_in}
use Rattle.sf_safe.specs.Checked.Contract.{Known}
use Rattle.sf_setup.specs.Checked.Told.{IsLogUpTo}
use Rattle.sf_setup.specs.declared.stop.SetUpStop.{SetUpStop}
use Rattle.sf_setup.specs.declared.stop.SetUpStop.TheVariants.{Steps as SetUpSteps, OutOfMemory as SetUpOutOfMemory}
use Rattle.sf_run.specs.Running.{SetsUp}
use Rattle.sf_threads.specs.declared.stop.Stop.{Stop}
use Rattle.sf_threads.specs.declared.stop.Stop.TheVariants.{Steps, Waits, OutOfMemory}

-- IsPrepared: the entry's part, which holds no resource, is safe, and has no frame of the procedure
-- that sets the resources up; one content for each resource, just what is the resource's; and
-- these are, taken together, where the procedure begins, or where setting up has led to from there,
-- of which the part's log tells, where it keeps one
pub record IsPrepared (p : Program) (f : ProcId) (is_fresh : Bool) (vars : Vars) (heap : Cells)
    (base count : ℕ) (a : Part) (contents : List Content) : Type 0 where
  pub of : IsPartOf p a
  pub task : (part_of a).part.task ≡ []
  pub idle : (r : ResId) → (part_of a).part.holds r ≡ false
  pub owed : Known
  pub safe : IsSafe p owed (part_of a).part
  pub past : IsPastSetup p (part_of a).part
  pub within : length (numbers (part_of a).part.supply) ≤ STEPS
  pub given : (part_of a).given ≡ count
  pub each : length contents ≡ length p.resources
  pub in_order : AreFrom 0 (map content_of contents)
  pub is_in : AllByRecursion (λ (k : Content). IsContentIn p k) contents
  pub exactly : AllByRecursion (λ (k : Content). IsContentOf p (content_of k).content) contents
  pub early : AllByRecursion (λ (k : Content). k.stamp ≤ a.clock) contents
  pub start : Config
  pub begins : Begins p f is_fresh vars heap start
  pub events : List Event
  pub opened : Config
  pub supply : Supply
  pub run : NumberedFrom p start (has (units base count)) events opened supply
  pub settled : is_fresh ≡ false → events ≡ []
  pub set_up : is_fresh ≡ true → SetsUp p start events opened
  pub told : (part_of a).keeps ≡ true
      → IsLogUpTo p start events opened (part_of a).log (part_of a).clock
  pub whole : Whole ((part_of a).part ∷ []) (contents_in contents) opened
  pub supplied : Supplied ((part_of a).part ∷ []) supply

-- IsOpened: the table of the program began with that
pub record IsOpened (p : Program) (f : ProcId) (is_fresh : Bool) (vars : Vars) (heap : Cells)
    (base count : ℕ) (b : Begun) : Type 0 where
  pub program : program_of b.program ≡ p
  pub prepared : IsPrepared p f is_fresh vars heap base count b.part b.contents

-- IsUnready: why there is no table: a task that sets the resources up has used all its units, and
-- would go on; or memory ran out
abbrev pub IsUnready : Program → ProcId → (is_fresh : Bool) → Vars → Cells → (base count : ℕ) → Stop
    → Type 0
IsUnready p f is_fresh vars heap base count (Steps path used) =
    (start : Config) × Begins p f is_fresh vars heap start × SpentSteps p start base count path used
IsUnready p f is_fresh vars heap base count (Waits path r misses) = ⊥
IsUnready p f is_fresh vars heap base count OutOfMemory = Unit {0}

-- the same stop of what sets the resources up, as one of the run
abbrev pub told_of : SetUpStop → Stop
told_of (SetUpSteps path used) = Steps path used
told_of SetUpOutOfMemory = OutOfMemory
