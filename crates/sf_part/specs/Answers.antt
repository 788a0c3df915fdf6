-- Answers: what a task is told of its next step where it asks for one that is its own affair.
-- O'Hearn (2007): regions and parallel calls are where tasks meet; all else is a task's own.
use Rattle.std.specs.Prelude.{◌≡◌, ◌≢◌, List, []}
use Rattle.sf_base.specs.declared.value.Value.{Value}
use Rattle.sf_base.specs.HeapStore.{Heap}
use Rattle.sf_core.specs.declared.command.Expr.{Expr}
use Rattle.sf_core.specs.Machine.Bad.{IsAbsent, IsAtNoCell}
use Rattle.sf_core.specs.Machine.Config.{Frame, runs, Common, evaluate}
use Rattle.sf_core.specs.Machine.Enabled.{HasEnded}
use Rattle.sf_core.specs.Machine.Next.{Next, does, next}
use Rattle.sf_core.specs.Machine.Whole.{running, numbers}
use Rattle.sf_core.specs.Program.Syntax.{Command, look_up, mutate, new, dispose, call, Program}
use Rattle.sf_part.specs.declared.local.Local.{Local}
use Rattle.sf_part.specs.declared.local.Local.TheVariants.{Moved, AtRegion, AtExit, AtFork, AtInit, Done, Spent, Absent}
use Rattle.sf_part.specs.Steps.{common_of, IsEntry, IsExit, IsFork, IsPrivate, IsSettling}
use Rattle.sf_part.specs.Timed.{TimedPart}

-- the expression has that value, which is no location of the heap
abbrev pub IsMissed : (see : Expr → Value) → Heap → Expr → Value → Type 0
IsMissed see heap e v = (see e ≡ v) × IsAbsent heap v

-- the command would touch the cell at that value, and there is none
abbrev pub CommandMisses : (see : Expr → Value) → Heap → Command → Value → Type 0
CommandMisses see heap (look_up place x e field) v = IsMissed see heap e v
CommandMisses see heap (mutate place e field d) v = IsMissed see heap e v
CommandMisses see heap (dispose place e) v = IsMissed see heap e v
CommandMisses see heap _ v = ⊥

-- so would what comes next
abbrev pub Misses : Common → Next → Value → Type 0
Misses s (does f below c rest) v = CommandMisses (evaluate f.slots s.store) s.heap c v
Misses s _ v = ⊥

-- the task goes on by itself: it hasn't ended, and what comes next is its own affair
pub record GoesOn (p : Program) (a : TimedPart) (frames : List Frame) : Type 0 where
  pub going : HasEnded a.part.task (runs frames) → ⊥
  pub private : IsPrivate p (next (runs frames))

-- each answer's cause, of a task that runs these frames
abbrev pub AnswersOf : Program → TimedPart → List Frame → Local → Type 0
AnswersOf p a frames Moved = GoesOn p a frames × (numbers a.part.supply ≢ [])
    × (IsAtNoCell (common_of a.part) (next (runs frames)) → ⊥)
AnswersOf p a frames (AtRegion r) = IsEntry (next (runs frames)) r
AnswersOf p a frames (AtExit r) = IsExit (next (runs frames)) r
AnswersOf p a frames AtFork = IsFork (next (runs frames))
AnswersOf p a frames AtInit = IsSettling p (next (runs frames))
AnswersOf p a frames Done = HasEnded a.part.task (runs frames)
AnswersOf p a frames Spent = GoesOn p a frames × (numbers a.part.supply ≡ [])
AnswersOf p a frames (Absent v) = (numbers a.part.supply ≢ [])
    × Misses (common_of a.part) (next (runs frames)) v

-- Answers: the answer is the one to a task of that part, which runs
abbrev pub Answers : Program → TimedPart → Local → Type 0
Answers p a answer = (frames : List Frame) × (a.part.stand ≡ running frames)
    × AnswersOf p a frames answer

-- what comes next makes a cell or calls a procedure: no more of a task's own affair takes room
abbrev pub CommandNeedsRoom : Command → Type 0
CommandNeedsRoom (new place x) = Unit {0}
CommandNeedsRoom (call place c) = Unit {0}
CommandNeedsRoom _ = ⊥

abbrev pub NeedsRoom : Next → Type 0
NeedsRoom (does f below c rest) = CommandNeedsRoom c
NeedsRoom _ = ⊥

-- so it is of a task of that part, which runs
abbrev pub MayRunOut : TimedPart → Type 0
MayRunOut a = (frames : List Frame) × (a.part.stand ≡ running frames)
    × NeedsRoom (next (runs frames))
