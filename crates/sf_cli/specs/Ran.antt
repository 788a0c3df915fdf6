-- Ran: what is said of a run of a procedure from the text of a state.
-- Interleavings of tasks: Brookes, "A semantics for concurrent separation logic" (2007). One task's run: Hoare, "An
-- Axiomatic Basis for Computer Programming" (1969).
use Rattle.std.specs.Prelude.{◌≡◌, ℕ, ◌++◌, Bool, [], List, Some, codes, decimal, map}
use Rattle.sf_base.specs.declared.ids.ProcId.{ProcId}
use Rattle.sf_base.specs.declared.ids.ResId.{ResId}
use Rattle.sf_core.specs.Machine.Alone.{Outcome, finished, spent, waiting, Alone}
use Rattle.sf_core.specs.Machine.Config.{Config, Path}
use Rattle.sf_core.specs.Machine.Enabled.{HasEnded}
use Rattle.sf_core.specs.Machine.Numbered.{Numbered}
use Rattle.sf_core.specs.Machine.SpentSteps.{SpentSteps}
use Rattle.sf_core.specs.Machine.SpentWaits.{SpentWaits}
use Rattle.sf_core.specs.Machine.Step.{Event, procedure_at}
use Rattle.sf_core.specs.Program.Syntax.{Procedure, Program}
use Rattle.sf_foot.specs.declared.vars.Vars.{Vars}
use Rattle.sf_heap.specs.Cells.{Cells}
use Rattle.sf_machine.specs.Beginning.{Begins}
use Rattle.sf_run.specs.Sequential.{IsSequentialStart}
use Rattle.sf_state.specs.Refused.{name_at}
use Rattle.sf_state.specs.Starts.{IsStartFault, IsStartText}
use Rattle.sf_state.specs.declared.fault.StartFault.{StartFault}
use Rattle.sf_cli.specs.EndText.{IsEndText}
use Rattle.sf_cli.specs.StartRefusals.{start_refusal_text}
use Rattle.sf_cli.specs.TaskText.{task_text}
use Rattle.sf_words.specs.Words.{Text}

-- the line `finished`, and the text of the state at the end
pub record IsFinishedText (p : Program) (g : Procedure) (c : Config) (text : Text) : Type 0 where
  pub state : Text
  pub ends : IsEndText p g c state
  pub is : text ≡ codes "finished\n" ++ state

-- a task has used so many units and would go on
abbrev pub spent_steps_text : Path → (used : ℕ) → Text
spent_steps_text path used = codes "spent steps: task " ++ task_text path ++ codes " used " ++ decimal used
    ++ codes "\n"

-- the name of a resource
abbrev pub resource_name : Program → ResId → Text
resource_name p r = name_at (map (λ h. h.name) p.resources) r.0

-- a task has tried the region of that resource so often in vain
abbrev pub spent_waits_text : Program → Path → ResId → (tries : ℕ) → Text
spent_waits_text p path r tries = codes "spent waits: task " ++ task_text path ++ codes " resource "
    ++ resource_name p r ++ codes " tries " ++ decimal tries ++ codes "\n"

-- what comes of the entry's task alone with so many units and tries, printed
abbrev pub OutcomeAnswer : Program → Procedure → (steps waits : ℕ) → Outcome → Text → (status : ℕ) → Type 0
OutcomeAnswer p g steps waits (finished c) text status = IsFinishedText p g c text × (status ≡ 0)
OutcomeAnswer p g steps waits spent text status = (text ≡ spent_steps_text [] steps) × (status ≡ 6)
OutcomeAnswer p g steps waits (waiting r) text status = (text ≡ spent_waits_text p [] r waits) × (status ≡ 6)

-- what may be said of the tasks of a run with so many units from a base on and so many tries: numbered events lead to
-- where the entry has ended, and this is the end; or a task has used the units that it was given, and would go on; or
-- a task has tried a region so often in vain
pub data MayCome (p : Program) (g : Procedure) (start : Config) (base steps waits : ℕ) (text : Text) (status : ℕ)
    : Type 0 where
  ended : (events : List Event) (last : Config) → Numbered p start base steps events last → HasEnded [] last.tasks
      → IsFinishedText p g last text → status ≡ 0 → MayCome p g start base steps waits text status
  spent_steps : (path : Path) (used : ℕ) → SpentSteps p start base steps path used
      → text ≡ spent_steps_text path used → status ≡ 6 → MayCome p g start base steps waits text status
  spent_waits : (path : Path) (r : ResId) → SpentWaits p start base steps path r waits
      → text ≡ spent_waits_text p path r waits → status ≡ 6 → MayCome p g start base steps waits text status

-- what comes of the entry's task alone is one thing, and this is said of it
abbrev pub ComesAlone : Program → Procedure → (start : Config) → (base steps waits : ℕ) → Text → (status : ℕ) → Type 0
ComesAlone p g start base steps waits text status =
    (out : Outcome) × Alone p start base steps out × OutcomeAnswer p g steps waits out text status

-- the answer to a start of g, which is procedure f: it may come of its tasks; and where no parallel call can be
-- reached, it is what comes of the entry's task alone
pub record BeginAnswer (p : Program) (f : ProcId) (g : Procedure) (fresh : Bool) (vars : Vars) (heap : Cells)
    (base steps waits : ℕ) (text : Text) (status : ℕ) : Type 0 where
  pub start : Config
  pub begins : Begins p f fresh vars heap start
  pub may : MayCome p g start base steps waits text status
  pub alone : IsSequentialStart p f fresh → ComesAlone p g start base steps waits text status

-- the answer to a run of that procedure from the text of a state, with so many units and tries: the
-- text is no start, for one reason; or it is a start and this is the answer to it
pub data StateAnswer (p : Program) (f : ProcId) (given : Text) (steps waits : ℕ) (text : Text) (status : ℕ)
    : Type 0 where
  no_start : (g : Procedure) (e : StartFault) → procedure_at p f ≡ Some g → IsStartFault p g given e
      → text ≡ start_refusal_text e → status ≡ 5 → StateAnswer p f given steps waits text status
  ran : (g : Procedure) (vars : Vars) (heap : Cells) (parts : List (List ℕ)) (unit : ℕ) (fresh : Bool)
      → procedure_at p f ≡ Some g → IsStartText p f g given vars heap parts unit fresh
      → BeginAnswer p f g fresh vars heap unit steps waits text status → StateAnswer p f given steps waits text status
