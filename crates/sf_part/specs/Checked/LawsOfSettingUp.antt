-- What a part is like while its task sets the resources up.
-- O'Hearn, "Resources, Concurrency and Local Reasoning" (2007): what sets the resources up runs
-- before anything else does.
use Rattle.std.specs.Prelude.{◌≡◌, ℕ, true, List, Contains}
use Rattle.sf_base.specs.declared.ids.ProcId.{ProcId}
use Rattle.sf_base.specs.declared.ids.ResId.{ResId}
use Rattle.sf_calls.specs.FirstBreach.{Conditions}
use Rattle.sf_base.specs.HeapStore.{Heap, Store}
use Rattle.sf_core.specs.Machine.Config.{Frame, runs, Config}
use Rattle.sf_core.specs.Machine.Enabled.{HasEnded}
use Rattle.sf_core.specs.Machine.Next.{next}
use Rattle.sf_core.specs.Machine.Start.{Beginning, settled, fresh, Start}
use Rattle.sf_core.specs.Machine.Step.{Event}
use Rattle.sf_core.specs.Machine.Whole.{running, Part}
use Rattle.sf_core.specs.Program.Formed.{IsFormed}
use Rattle.sf_core.specs.Program.Init.{sets_up}
use Rattle.sf_core.specs.Program.Syntax.{Program}
use Rattle.sf_part.specs.First.{First}
use Rattle.sf_part.specs.Guards.{IsAtRegion}
use Rattle.sf_part.specs.Of.{IsOf, frames_in}
use Rattle.sf_part.specs.Steps.{IsExit, Private}
use Rattle.sf_part.specs.Timed.{TimedPart, TimedContent}

-- a frame of its task is of the procedure that sets the resources up
abbrev pub IsSettingUp : Program → Part → Type 0
IsSettingUp p a = (f : Frame) × Contains (frames_in a.stand) f
    × (sets_up p f.fixed.procedure ≡ true)

-- the beginning is that of a run whose resources are still to be set up
abbrev pub IsFresh : Beginning → Type 0
IsFresh settled = ⊥
IsFresh (fresh n h) = Unit {0}

-- the part with which such a run begins is so
unfoldable pub FreshPartsSetUp : Type 0
FreshPartsSetUp = (p : Program) (f : ProcId) (store : Store) (heap : Heap) (c : Config)
    (base count : ℕ) (a : TimedPart) (contents : List TimedContent) → (s : Start p f store heap c)
    → First p f s.procedure s.beginning store heap base count a contents → IsFresh s.beginning
    → IsSettingUp p a.part

-- private events keep it so: the return of that procedure is none
unfoldable pub SettingUpGoesOn : Type 0
SettingUpGoesOn = (p : Program) (event : Event) (a b : TimedPart) → Private p event a b
    → IsSettingUp p a.part → IsSettingUp p b.part

-- the task is at no region, leaves none, and hasn't ended
pub record MeetsNobody (a : Part) : Type 0 where
  pub region : (r : ResId) → IsAtRegion a r → ⊥
  pub exit : (r : ResId) (frames : List Frame) → a.stand ≡ running frames
      → IsExit (next (runs frames)) r → ⊥
  pub going : (frames : List Frame) → a.stand ≡ running frames → HasEnded a.task (runs frames) → ⊥

-- meanwhile it is so, of a part that is the program's: it has all resources, and a region of one
-- isn't entered again inside of it
unfoldable pub SettingUpIsAlone : Type 0
SettingUpIsAlone = (p : Program) (a : Part) → IsFormed p → Conditions p → IsOf p a
    → IsSettingUp p a → MeetsNobody a
