-- What is so between a parallel call and its join.
-- O'Hearn (2007): the parallel rule splits what a task owns, and puts it together again.
use Rattle.std.specs.Prelude.{◌≡◌, ◌<◌, ◌+◌, length}
use Rattle.atomic_table.specs.Seated.{TableId}
use Rattle.sf_core.specs.Program.Syntax.{Program}
use Rattle.sf_part.specs.Answers.{Answers}
use Rattle.sf_part.specs.declared.local.Local.TheVariants.{Done}
use Rattle.sf_part.specs.Going.{HaveGoneOn}
use Rattle.sf_part.specs.PartView.{part_of}
use Rattle.sf_region.specs.declared.views.Begun.{Begun}
use Rattle.sf_region.specs.Meeting.{IsAtRest}
use Rattle.sf_threads.specs.declared.forks.Parted.{Parted}
use Rattle.sf_threads.specs.Checked.Running.{IsRunning, Seen}

-- the task that waits has its seat at the table, which has seen its part as it is
pub record Rests (t : TableId × Begun) (k : Seen) : Type 0 where
  pub table : k.0.0 ≡ t.0
  pub begun : k.0.1.begun ≡ t.1
  pub rest : IsAtRest k.0.1 k.1

-- HasParted: the task has forked, and its children run, a turn further down
pub record HasParted (p : Program) (t : TableId × Begun) (k : Seen) (f : Parted) : Type 0 where
  pub gone : HaveGoneOn p (part_of k.1) (part_of f.waits.1) (part_of f.left.1)
      (part_of f.right.1)
  pub rests : Rests t f.waits
  pub left : IsRunning p t f.left
  pub right : IsRunning p t f.right
  pub later : (part_of k.1).clock < (part_of f.waits.1).clock
  pub left_deeper : length (part_of f.left.1).part.task ≡ length (part_of k.1).part.task + 1
  pub right_deeper : length (part_of f.right.1).part.task ≡ length (part_of k.1).part.task + 1

-- a child has its seat at the table, and has ended
pub record IsOver (p : Program) (t : TableId × Begun) (k : Seen) : Type 0 where
  pub table : k.0.0 ≡ t.0
  pub begun : k.0.1.begun ≡ t.1
  pub done : Answers p (part_of k.1) Done

-- MayMeet: the children of a task that ran before have ended
pub record MayMeet (p : Program) (t : TableId × Begun) (k w one two : Seen) : Type 0 where
  pub before : IsRunning p t k
  pub gone : HaveGoneOn p (part_of k.1) (part_of w.1) (part_of one.1) (part_of two.1)
  pub rests : Rests t w
  pub left : IsOver p t one
  pub right : IsOver p t two
  pub later : (part_of k.1).clock < (part_of w.1).clock
