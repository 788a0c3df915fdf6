-- Running: where a task of a run stands, and what its end is.
-- O'Hearn (2007), Brookes (2007): what a task owns is enough for it, whatever the others do.
use Rattle.std.specs.Prelude.{◌≡◌, ◌<◌, ◌≤◌, ◌*◌, ◌^◌, length}
use Rattle.atomic_table.specs.Seated.{TableId}
use Rattle.sf_base.specs.declared.limits.TheConstants.{STEPS}
use Rattle.sf_core.specs.Machine.Whole.{numbers}
use Rattle.sf_core.specs.Program.Syntax.{Program}
use Rattle.sf_own.specs.Checked.Safe.{IsSafe}
use Rattle.sf_part.specs.Answers.{Answers}
use Rattle.sf_part.specs.Checked.LawsOfGoing.{IsPastSetup}
use Rattle.sf_part.specs.declared.local.Local.TheVariants.{Done}
use Rattle.sf_part.specs.declared.part.Part.{Part}
use Rattle.sf_part.specs.Going.{GoesTo}
use Rattle.sf_part.specs.PartView.{part_of}
use Rattle.sf_region.specs.declared.views.Begun.{Begun}
use Rattle.sf_region.specs.declared.views.View.{View}
use Rattle.sf_region.specs.Meeting.{HasNoMisses}
use Rattle.sf_region.specs.Waits.{program_in}
use Rattle.sf_safe.specs.Checked.Contract.{Known}

-- a task at a table, as contracts see it: its seat's table and view, and its part
abbrev pub Seen : Type 0
Seen = (TableId × View) × Part

-- IsRunning: a task at that table, which is the program's, runs, and what it has is enough for it,
-- whatever the others do; no frame of it sets the resources up; each turn of its path has halved the
-- units that a run may have; and no miss of it counts
pub record IsRunning (p : Program) (t : TableId × Begun) (k : Seen) : Type 0 where
  pub table : k.0.0 ≡ t.0
  pub begun : k.0.1.begun ≡ t.1
  pub program : program_in t.1 ≡ p
  pub owed : Known
  pub safe : IsSafe p owed (part_of k.1).part
  pub past : IsPastSetup p (part_of k.1).part
  pub room : length (numbers (part_of k.1).part.supply) * 2 ^ length (part_of k.1).part.task
      ≤ STEPS
  pub fresh : HasNoMisses k.0.1 k.1

-- HasMoved: it has gone on, by one event of its own at least
pub record HasMoved (p : Program) (t : TableId × Begun) (k l : Seen) : Type 0 where
  pub running : IsRunning p t l
  pub goes : GoesTo p (part_of k.1) (part_of l.1)
  pub later : (part_of k.1).clock < (part_of l.1).clock

-- HasEnded: it has gone on to its end
pub record HasEnded (p : Program) (t : TableId × Begun) (k l : Seen) : Type 0 where
  pub running : IsRunning p t l
  pub goes : GoesTo p (part_of k.1) (part_of l.1)
  pub done : Answers p (part_of l.1) Done
