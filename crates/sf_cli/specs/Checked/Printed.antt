-- What the code's answers to a run are, printed.
-- Ordinary: a text by cases.
use Rattle.std.specs.Prelude.{◌≡◌, ◌++◌, ℕ, Bool, [], List, Some, codes}
use Rattle.sf_base.specs.declared.ids.ProcId.{ProcId}
use Rattle.sf_core.specs.Machine.Step.{Event, procedure_at}
use Rattle.sf_core.specs.Program.Syntax.{Procedure, Program}
use Rattle.sf_foot.specs.declared.vars.Vars.{Vars}
use Rattle.sf_heap.specs.Cells.{Cells}
use Rattle.sf_threads.specs.declared.stop.Stop.{Stop}
use Rattle.sf_threads.specs.declared.stop.Stop.TheVariants.{Steps, Waits, OutOfMemory}
use Rattle.sf_state.specs.Finishing.{IsFinishText}
use Rattle.sf_cli.specs.Checked.Kept.{KeptAnswer}
use Rattle.sf_cli.specs.Journaled.{AreMerged, IsJournal, event_line, schedule_text}
use Rattle.sf_machine.specs.Events.{event_of}
use Rattle.sf_part.specs.Timed.{Stamped}
use Rattle.sf_replay.specs.declared.schedule.Scheduled.{Scheduled}
use Rattle.sf_cli.specs.Ran.{BeginAnswer, spent_steps_text, spent_waits_text}
use Rattle.sf_words.specs.Words.{Text}

-- that a procedure has ended with these variables and cells
pub record SaysFinish (p : Program) (g : Procedure) (vars : Vars) (heap : Cells) (text : Text) (status : ℕ) : Type 0 where
  pub state : Text
  pub ends : IsFinishText p g vars heap state
  pub is : text ≡ codes "finished\n" ++ state
  pub ok : status ≡ 0

-- the line of an event of a schedule
abbrev pub told_line : Scheduled → Text
told_line s = event_line (event_of s.event)

-- the text, and after it the events that a log tells of
abbrev pub AddsEvents : Program → (log : List Stamped) → (text more : Text) → Type 0
AddsEvents p log text more = (events : List Event) × AreMerged p log events × (more ≡ text ++ schedule_text events)

-- that it has ended so, and the events that a log of the run tells of where it was kept
abbrev pub SaysEnd : (kept : Bool) → Program → Procedure → Vars → Cells → (log : List Stamped) → Text → (status : ℕ)
    → Type 0
SaysEnd kept p g vars heap log text status =
    KeptAnswer kept (SaysFinish p g vars heap) (λ shown. AreMerged p log) text status

-- why a run stops; nothing is said where memory ran out
abbrev pub stop_text : Program → Stop → Text
stop_text p (Steps path used) = spent_steps_text path used
stop_text p (Waits path r misses) = spent_waits_text p path r misses.count
stop_text p OutOfMemory = []

-- the answer to a start of procedure f, which is there, with these variables and cells; with its journal where that is kept
abbrev pub IsBeginText : (kept : Bool) → Program → ProcId → (fresh : Bool) → Vars → Cells → (base steps waits : ℕ) → Text
    → (status : ℕ) → Type 0
IsBeginText kept p f fresh vars heap base steps waits text status =
    (g : Procedure) → procedure_at p f ≡ Some g
    → KeptAnswer kept (BeginAnswer p f g fresh vars heap base steps waits)
    (IsJournal p f g fresh vars heap base steps) text status
