-- Lone: configurations with one task, which never makes another, and the units that its events may
-- take.
-- Ordinary: the stack of a sequential program, each frame with the rest of its procedure's text to
-- do.
use Rattle.std.specs.Prelude.{◌≡◌, ℕ, ◌<◌, ◌≤◌, false, List, [], ◌∷◌, Some, None, Contains}
use Rattle.std.specs.List.{AllByRecursion}
use Rattle.sf_base.specs.declared.ids.ResId.{ResId}
use Rattle.sf_core.specs.Machine.Config.{Item, command, leave, Frame, runs, Config}
use Rattle.sf_core.specs.Machine.Step.{procedure_at}
use Rattle.sf_core.specs.Program.Heads.{Site, sites}
use Rattle.sf_core.specs.Program.Syntax.{Block, done, then, Procedure, Program}
use Rattle.sf_run.specs.Sequential.{IsSequential}

-- the resources of the regions that are still to leave, the innermost first
abbrev pub inside : List Item → List ResId
inside [] = []
inside (command c ∷ todo) = inside todo
inside (leave r ∷ todo) = r ∷ inside todo

-- each command that is to do is one of the body, within the same regions
abbrev pub IsOfBody : Block → List Item → Type 0
IsOfBody body [] = Unit {0}
IsOfBody body (command c ∷ todo) =
    ((s : Site) → Contains (sites (inside todo) (then c done)) s → Contains (sites [] body) s) × IsOfBody body todo
IsOfBody body (leave r ∷ todo) = IsOfBody body todo

-- the frame is of a procedure from which no parallel call can be reached, and what it has to do is
-- of its body
pub record IsLoneFrame (p : Program) (f : Frame) : Type 0 where
  pub procedure : Procedure
  pub there : procedure_at p f.fixed.procedure ≡ Some procedure
  pub sequential : IsSequential p f.fixed.procedure
  pub todo : IsOfBody procedure.body f.todo

-- the entry's task is the only one, and all its frames are such
pub record IsLone (p : Program) (c : Config) : Type 0 where
  pub frames : List Frame
  pub alone : c.tasks ≡ runs frames
  pub each : AllByRecursion (IsLoneFrame p) frames

-- no number from that one on is used, and no cell has a location from it on
abbrev pub IsFreeFrom : ℕ → Config → Type 0
IsFreeFrom unit c = (k : ℕ) → unit ≤ k → (c.used k ≡ false) × (c.common.heap k ≡ None)

-- where units may begin: above number 0, which is the start's, and above all locations
pub record IsBase (base : ℕ) (start : Config) : Type 0 where
  pub above_start : 0 < base
  pub above_cells : (k : ℕ) → base ≤ k → start.common.heap k ≡ None
