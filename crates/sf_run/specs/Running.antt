-- Running: what a run answers: what it ends with, or why it stops.
-- O'Hearn (2007), Brookes (2007): an interleaving of tasks on one heap; Hoare (1969) where there is
-- one task.
use Rattle.std.specs.Prelude.{◌≡◌, ◌++◌, ℕ, Bool, true, false, List, [], ◌∷◌}
use Rattle.sf_base.specs.declared.ids.ProcId.{ProcId}
use Rattle.sf_core.specs.Machine.Alone.{Outcome, finished, spent, waiting, Alone}
use Rattle.sf_core.specs.Machine.Config.{Config}
use Rattle.sf_core.specs.Machine.Enabled.{HasEnded}
use Rattle.sf_core.specs.Machine.Next.{next}
use Rattle.sf_core.specs.Machine.Numbered.{Numbered}
use Rattle.sf_core.specs.Machine.Reach.{Reach}
use Rattle.sf_core.specs.Machine.SpentSteps.{SpentSteps}
use Rattle.sf_core.specs.Machine.SpentWaits.{SpentWaits}
use Rattle.sf_core.specs.Machine.Step.{Event, Step}
use Rattle.sf_core.specs.Program.ProgramView.{program_of}
use Rattle.sf_core.specs.Program.Syntax.{Program}
use Rattle.sf_check.specs.Accepted.{Accepted, arranged_in}
use Rattle.sf_foot.specs.declared.start.Finish.{Finish}
use Rattle.sf_foot.specs.declared.vars.Vars.{Vars}
use Rattle.sf_heap.specs.Cells.{Cells}
use Rattle.sf_machine.specs.Beginning.{Begins}
use Rattle.sf_machine.specs.Ending.{Ends}
use Rattle.sf_part.specs.Steps.{IsSettling}
use Rattle.sf_part.specs.Timed.{Stamped}
use Rattle.sf_region.specs.declared.views.Begun.{Begun}
use Rattle.sf_region.specs.Waits.{BeganAt}
use Rattle.sf_run.specs.declared.stop.Budget.{Budget}
use Rattle.sf_threads.specs.declared.stop.Stop.{Stop}
use Rattle.sf_threads.specs.declared.stop.Stop.TheVariants.{Steps, Waits, OutOfMemory}
use Rattle.sf_trace.specs.Logs.{IsLogOf}

-- the program that is proved
abbrev pub program_in : Accepted → Program
program_in proof = program_of (arranged_in proof).program

-- a numbered list of events leads there from the start, and there the entry has ended
pub record IsNumberedEnd (p : Program) (start : Config) (base count : ℕ) (c : Config) : Type 0 where
  pub events : List Event
  pub numbered : Numbered p start base count events c
  pub ended : HasEnded [] c.tasks

-- IsFinish: an interleaving of a procedure's tasks, from where it begins with these variables and
-- cells, fresh or not, with so many units from a base on, ends with what was answered
pub record IsFinish (p : Program) (f : ProcId) (is_fresh : Bool) (vars : Vars) (heap : Cells)
    (base count : ℕ) (finish : Finish) : Type 0 where
  pub start : Config
  pub begins : Begins p f is_fresh vars heap start
  pub last : Config
  pub run : IsNumberedEnd p start base count last
  pub ends : Ends p f last finish.vars finish.heap

-- IsLog: the log is of the events by which the run has ended, from the start on
pub record IsLog (p : Program) (f : ProcId) (is_fresh : Bool) (vars : Vars) (heap : Cells)
    (base count : ℕ) (finish : Finish) (log : List Stamped) : Type 0 where
  pub run : IsFinish p f is_fresh vars heap base count finish
  pub is : IsLogOf p run.start (run.run).events run.last log

-- the last of the events is the return of the procedure that sets the resources up
pub record SetsUp (p : Program) (start : Config) (events : List Event) (c : Config) : Type 0 where
  pub before : List Event
  pub event : Event
  pub are : events ≡ before ++ event ∷ []
  pub between : Config
  pub reached : Reach p start before between
  pub step : Step p event between c
  pub returns : IsSettling p (next step.from)

-- IsTable: the table of resources is the program's, and began where the procedure begins; or, where
-- that is fresh, where the events of the procedure that sets the resources up have led from there
pub record IsTable (p : Program) (f : ProcId) (is_fresh : Bool) (vars : Vars) (heap : Cells)
    (base count : ℕ) (table : Begun) : Type 0 where
  pub program : program_of table.program ≡ p
  pub start : Config
  pub begins : Begins p f is_fresh vars heap start
  pub events : List Event
  pub opened : Config
  pub numbered : Numbered p start base count events opened
  pub settled : is_fresh ≡ false → events ≡ []
  pub set_up : is_fresh ≡ true → SetsUp p start events opened
  pub began : BeganAt table opened

-- why it stops: some numbered run leads there where a task has used all units that it was given,
-- and would go on, or where it has tried a region so often in vain, of which a table of the run
-- gives a receipt
abbrev pub IsStop : Program → ProcId → (is_fresh : Bool) → Vars → Cells → (base : ℕ) → Budget → Stop
    → Type 0
IsStop p f is_fresh vars heap base budget (Steps path used) =
    (start : Config) × Begins p f is_fresh vars heap start
    × SpentSteps p start base budget.steps path used
IsStop p f is_fresh vars heap base budget (Waits path r misses) =
    (start : Config) × Begins p f is_fresh vars heap start
    × SpentWaits p start base budget.steps path r budget.waits
    × IsTable p f is_fresh vars heap base budget.steps misses.begun
    × (misses.task ≡ path) × (misses.resource ≡ r) × (misses.count ≡ budget.waits)
IsStop p f is_fresh vars heap base budget OutOfMemory = Unit {0}

-- what comes of the procedure where no parallel call can be reached: of one task alone
pub record ComesTo (p : Program) (f : ProcId) (is_fresh : Bool) (vars : Vars) (heap : Cells)
    (base count : ℕ) (out : Outcome) : Type 0 where
  pub start : Config
  pub begins : Begins p f is_fresh vars heap start
  pub comes : Alone p start base count out

-- it ends, and the answer is what it ends with
pub record EndsWith (p : Program) (f : ProcId) (is_fresh : Bool) (vars : Vars) (heap : Cells)
    (base count : ℕ) (finish : Finish) : Type 0 where
  pub last : Config
  pub comes : ComesTo p f is_fresh vars heap base count (finished last)
  pub ends : Ends p f last finish.vars finish.heap

-- why it stops: the entry's task has used all units, or it waits for a condition, which no try
-- would find true
abbrev pub Stops : Program → ProcId → (is_fresh : Bool) → Vars → Cells → (base : ℕ) → Budget → Stop
    → Type 0
Stops p f is_fresh vars heap base budget (Steps path used) =
    (path ≡ []) × (used ≡ budget.steps) × ComesTo p f is_fresh vars heap base budget.steps spent
Stops p f is_fresh vars heap base budget (Waits path r misses) =
    (path ≡ []) × (misses.count ≡ budget.waits)
    × ComesTo p f is_fresh vars heap base budget.steps (waiting r)
Stops p f is_fresh vars heap base budget OutOfMemory = Unit {0}
