-- What is so of a task between its tries at a region.
-- Hoare, "Towards a Theory of Parallel Programming" (1972): a task waits until it may enter.
use Rattle.std.specs.Prelude.{◌≡◌, ◌≢◌, []}
use Rattle.atomic_table.specs.Seated.{TableId}
use Rattle.sf_base.specs.declared.ids.ResId.{ResId}
use Rattle.sf_core.specs.Machine.Whole.{numbers}
use Rattle.sf_core.specs.Program.Syntax.{Program}
use Rattle.sf_part.specs.Answers.{Answers}
use Rattle.sf_part.specs.declared.local.Local.TheVariants.{AtRegion}
use Rattle.sf_part.specs.PartView.{part_of}
use Rattle.sf_region.specs.declared.views.Begun.{Begun}
use Rattle.sf_region.specs.Meeting.{HasMissed}
use Rattle.sf_threads.specs.Checked.Running.{IsRunning, Seen}

-- IsTrying: a task stands at a region of the resource, with a unit for the entry; its part is as it
-- was when it came there
pub record IsTrying (p : Program) (t : TableId × Begun) (r : ResId) (k : Seen) : Type 0 where
  pub came : Seen
  pub running : IsRunning p t came
  pub same : part_of k.1 ≡ part_of came.1
  pub table : k.0.0 ≡ t.0
  pub begun : k.0.1.begun ≡ t.1
  pub region : Answers p (part_of k.1) (AtRegion r)
  pub unit : numbers (part_of k.1).part.supply ≢ []

-- HasTried: it has tried it in vain, at the same table
pub record HasTried (p : Program) (t : TableId × Begun) (r : ResId) (k l : Seen) : Type 0 where
  pub table : l.0.0 ≡ t.0
  pub begun : l.0.1.begun ≡ t.1
  pub missed : HasMissed r k.0.1 k.1 l.0.1 l.1
