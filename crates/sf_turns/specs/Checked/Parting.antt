-- Where the three tasks of a parallel call are, between it and its join.
-- O'Hearn (2007): the parallel rule splits what a task owns, and puts it together again.
use Rattle.sf_base.specs.declared.ids.ProcId.{ProcId}
use Rattle.sf_core.specs.Program.ProgramView.{program_of}
use Rattle.sf_part.specs.Answers.{Answers}
use Rattle.sf_part.specs.declared.local.Local.TheVariants.{Done}
use Rattle.sf_part.specs.Going.{HaveGoneOn}
use Rattle.sf_part.specs.PartView.{part_of}
use Rattle.sf_precise.specs.declared.arranged.Arranged.{Arranged}
use Rattle.sf_region.specs.Meeting.{IsAtRest}
use Rattle.sf_turns.specs.Checked.Seats.{HasGone, IsAt, IsEntryAt, RunsAt, Seen, Table}
use Rattle.sf_turns.specs.declared.forks.Parted.{Parted}

-- the task that waits has its seat at the table, which has seen its part as it is, and its children
-- run, since it forked
pub record HasForked (a : Arranged) (t : Table) (k : Seen) (f : Parted) : Type 0 where
  pub gone : HaveGoneOn (program_of a.program) (part_of k.1) (part_of f.waits.1) (part_of f.left.1)
      (part_of f.right.1)
  pub seat : IsAt a t f.waits
  pub rest : IsAtRest f.waits.0.1 f.waits.1
  pub left : RunsAt a t f.left
  pub right : RunsAt a t f.right

-- a task has gone on, and has forked then
pub record HasParted (a : Arranged) (t : Table) (k : Seen) (f : Parted) : Type 0 where
  pub came : Seen
  pub gone : HasGone a t k came
  pub forked : HasForked a t came f

-- both children have ended, and may be joined
pub record MayJoin (a : Arranged) (t : Table) (k : Seen) (f : Parted) : Type 0 where
  pub came : Seen
  pub way : HasGone a t k came
  pub gone : HaveGoneOn (program_of a.program) (part_of came.1) (part_of f.waits.1)
      (part_of f.left.1) (part_of f.right.1)
  pub seat : IsAt a t f.waits
  pub rest : IsAtRest f.waits.0.1 f.waits.1
  pub left : IsAt a t f.left
  pub right : IsAt a t f.right
  pub left_ended : Answers (program_of a.program) (part_of f.left.1) Done
  pub right_ended : Answers (program_of a.program) (part_of f.right.1) Done

-- the entry's task of a run of the procedure has gone on, and forked
abbrev pub IsEntryParted : Arranged → ProcId → Table → Parted → Type 0
IsEntryParted a f t parted = (k : Seen) × IsEntryAt a f t k × HasParted a t k parted
