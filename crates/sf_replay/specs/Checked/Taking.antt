-- What is kept of the lines that were read.
-- Ordinary: a fold over lines, cut in two.
use Rattle.std.specs.Prelude.{◌≡◌, ◌⊎◌, ℕ, ◌++◌, List, Option, Some, None, Result, Ok, Err, length, drop}
use Rattle.sf_lines.specs.Lines.{Text, lines}
use Rattle.sf_replay.specs.declared.schedule.Said.{Said}
use Rattle.sf_replay.specs.declared.schedule.Said.TheVariants.{Nothing, Bad, Happens}
use Rattle.sf_replay.specs.declared.schedule.Scheduled.{Scheduled}
use Rattle.sf_replay.specs.declared.schedule.ScheduleFault.{ScheduleFault}
use Rattle.sf_replay.specs.declared.schedule.ScheduleFault.TheVariants.{OutOfMemory}
use Rattle.sf_replay.specs.ScheduleText.{event_in, events_from, line_refusal, lines_kept, refusal_from, schedule_line, skipped}

-- the event has a value for each of so many fields
abbrev pub IsWide : (count : ℕ) → Scheduled → Type 0
IsWide count s = length s.event.fields ≡ count

-- what a line says has a value for each of so many fields, where it is an event
abbrev pub IsWideSaid : (count : ℕ) → Said → Type 0
IsWideSaid count Nothing = Unit {0}
IsWideSaid count Bad = Unit {0}
IsWideSaid count (Happens event) = length event.fields ≡ count

-- the call takes one line more, or says why it is refused, or memory runs out
abbrev pub Taken : (line : ℕ) → Result (Unit {0}) ScheduleFault → (old new : List Scheduled) → Said → Type 0
Taken line (Ok u) old new s = (line_refusal line (length old) s ≡ None) × (new ≡ old ++ event_in line s)
Taken line (Err f) old new s = (f ≡ OutOfMemory) ⊎ (line_refusal line (length old) s ≡ Some f)

-- the call takes these lines, before which there are so many, or says why the first that is refused is, or memory
-- runs out
abbrev pub AllTaken : (fields : List Text) → (before : ℕ) → List Text → (taken : List Scheduled) → Option ScheduleFault
    → Type 0
AllTaken fields before left taken refusal =
    (taken ≡ events_from fields before left) × (refusal ≡ refusal_from fields before 0 left)

-- in between: these lines are left, and what was taken is what the others give, of which none is refused
pub record Reading (fields : List Text) (first before : ℕ) (all left : List Text) (taken : List Scheduled) : Type 0 where
  pub events : events_from fields first all ≡ taken ++ events_from fields before left
  pub refusal : refusal_from fields first 0 all ≡ refusal_from fields before (length taken) left

-- so many lines were looked at, and the others are left
pub record Seeking (text : Text) (before : ℕ) (left : List Text) : Type 0 where
  pub rest : left ≡ drop before (lines text)
  pub same : schedule_line 0 (lines text) ≡ schedule_line before left

-- so many lines are skipped, and the others are left
pub record IsCut (text : Text) (before : ℕ) (left : List Text) : Type 0 where
  pub number : before ≡ skipped text
  pub rest : left ≡ lines_kept text
