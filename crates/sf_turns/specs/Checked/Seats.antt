-- Where tasks are at a table of a program.
-- Ordinary: what the calls of a task ask, in one place.
use Rattle.std.specs.Prelude.{◌≡◌, ◌<◌, [], length}
use Rattle.atomic_table.specs.Seated.{TableId}
use Rattle.sf_base.specs.declared.ids.ProcId.{ProcId}
use Rattle.sf_core.specs.Program.ProgramView.{program_of}
use Rattle.sf_part.specs.Answers.{Answers}
use Rattle.sf_part.specs.declared.local.Local.TheVariants.{Done}
use Rattle.sf_part.specs.declared.part.Part.{Part}
use Rattle.sf_part.specs.Going.{GoesTo}
use Rattle.sf_part.specs.Keeps.{IsWaiting}
use Rattle.sf_part.specs.PartView.{part_of}
use Rattle.sf_precise.specs.declared.arranged.Arranged.{Arranged}
use Rattle.sf_region.specs.declared.views.Begun.{Begun}
use Rattle.sf_region.specs.declared.views.View.{View}
use Rattle.sf_region.specs.Waits.{first_of, program_in}

-- a table, and a task, as contracts see them
abbrev pub Table : Type 0
Table = TableId × Begun

abbrev pub Seen : Type 0
Seen = (TableId × View) × Part

-- the task has a seat at the table, which is one of the program
pub record IsAt (a : Arranged) (t : Table) (k : Seen) : Type 0 where
  pub table : k.0.0 ≡ t.0
  pub begun : k.0.1.begun ≡ t.1
  pub program : program_in k.0.1.begun ≡ program_of a.program
  pub same : program_in t.1 ≡ program_of a.program

-- and runs
pub record RunsAt (a : Arranged) (t : Table) (k : Seen) : Type 0 where
  pub seat : IsAt a t k
  pub runs : IsWaiting (part_of k.1).part.stand → ⊥

-- it has gone on since it was the one task, and is the other
pub record HasGone (a : Arranged) (t : Table) (k l : Seen) : Type 0 where
  pub now : RunsAt a t l
  pub goes : GoesTo (program_of a.program) (part_of k.1) (part_of l.1)

-- and has ended
pub record HasEnded (a : Arranged) (t : Table) (k l : Seen) : Type 0 where
  pub gone : HasGone a t k l
  pub done : Answers (program_of a.program) (part_of l.1) Done

-- the table is that of a run of the procedure
pub record IsRunOf (a : Arranged) (f : ProcId) (t : Table) : Type 0 where
  pub within : f.0 < length a.program.procedures.items
  pub first : (first_of t.1).part.task ≡ []

-- the task is the entry's, and runs
pub record IsEntryAt (a : Arranged) (f : ProcId) (t : Table) (k : Seen) : Type 0 where
  pub run : IsRunOf a f t
  pub runs : RunsAt a t k
  pub entry : (part_of k.1).part.task ≡ []
