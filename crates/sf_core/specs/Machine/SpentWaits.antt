-- SpentWaits: a task that tried one region so often in vain.
-- Conditional critical regions: Hoare, "Towards a Theory of Parallel Programming" (1972).
use Rattle.std.specs.Prelude.{◌≡◌, ◌≢◌, ◌⊎◌, ℕ, ◌≤◌, List, [], ◌∷◌, length, take, Some, None}
use Rattle.std.specs.List.{AllByRecursion}
use Rattle.sf_base.specs.declared.ids.ResId.{ResId}
use Rattle.sf_core.specs.declared.assertion.Test.{Test}
use Rattle.sf_core.specs.declared.command.Expr.{Expr}
use Rattle.sf_core.specs.Assertions.Sat.{IsTrueOf}
use Rattle.sf_core.specs.Machine.Config.{Item, command, Fixed, Frame, Path, Config, evaluate, task_at}
use Rattle.sf_core.specs.Machine.Step.{Event, task_with}
use Rattle.sf_core.specs.Program.Syntax.{with, Block, Program}
use Rattle.sf_base.specs.declared.place.Place.{Place}
use Rattle.sf_core.specs.Machine.Supplies.{Supply, has, units}
use Rattle.sf_core.specs.Machine.Numbered.{NumberedFrom}

-- the next step of the task at the path is a region of that resource, with this condition in that frame
pub record IsAtRegion (c : Config) (path : Path) (r : ResId) : Type 0 where
  pub frame : Fixed
  pub below : List Frame
  pub place : Place
  pub test : Test Expr
  pub body : Block
  pub rest : List Item
  pub there : task_at path c.tasks ≡ Some (task_with frame (command (with place r test body) ∷ rest) below)

-- a try of the task there may miss: another task holds the resource, another tries it too, or it is free and the
-- condition is false
abbrev pub MayMiss : Config → Path → ResId → Type 0
MayMiss c path r = (at : IsAtRegion c path r)
    × (((other : Path) × (c.common.held r ≡ Some other) × (other ≢ path))
    ⊎ (((other : Path) × (other ≢ path) × IsAtRegion c other r)
    ⊎ ((c.common.held r ≡ None) × (IsTrueOf (evaluate at.frame.slots c.common.store) at.test → ⊥))))

-- each place is at or after the one before
abbrev pub NoneBefore : (first : ℕ) → List ℕ → Type 0
NoneBefore first [] = Unit {0}
NoneBefore first (k ∷ ks) = (first ≤ k) × NoneBefore k ks

-- SpentWaits: some numbered run has so many places, none before an earlier one and with no event of the task between
-- them, at each of which a try of the task may miss
pub record SpentWaits (p : Program) (start : Config) (base count : ℕ) (path : Path) (r : ResId) (tries : ℕ) :
    Type 0 where
  pub before : List Event
  pub between : List Event
  pub config : Config
  pub supply : Supply
  pub first : NumberedFrom p start (has (units base count)) before config supply
  pub others : AllByRecursion (λ (e : Event). e.task ≢ path) between
  pub places : List ℕ
  pub ordered : NoneBefore 0 places
  pub many : length places ≡ tries
  pub missed : AllByRecursion (λ k. (k ≤ length between) × ((d : Config) × (rest : Supply)
      × NumberedFrom p config supply (take k between) d rest × MayMiss d path r)) places
