-- The law: a program whose bodies are safe, from whatever satisfies their preconditions, is sound.
-- The soundness theorem of concurrent separation logic: Brookes (2007), Vafeiadis (2011).
use Rattle.std.specs.Prelude.{◌≡◌, ℕ, Some}
use Rattle.sf_calls.specs.FirstBreach.{Conditions}
use Rattle.sf_core.specs.Machine.Config.{items}
use Rattle.sf_core.specs.Machine.Sound.{IsSound}
use Rattle.sf_core.specs.Machine.Step.{procedure_at}
use Rattle.sf_core.specs.Program.Formed.{IsFormed}
use Rattle.sf_core.specs.Program.Syntax.{Procedure, Program}
use Rattle.sf_safe.specs.Checked.Own.{Own}
use Rattle.sf_safe.specs.Checked.Contract.{Known, Entered}
use Rattle.sf_safe.specs.Checked.Safe.{Safe}

-- each procedure's body is safe for every number of events, from whatever its frame may begin with
abbrev pub BodiesAreSafe : Program → Type 0
BodiesAreSafe p = (k : Known) (g : Procedure) → procedure_at p k.fixed.procedure ≡ Some g → (n : ℕ) (w : Own)
    → Entered p k w → Safe p n k (items g.body) w

-- a program that is formed, meets the conditions on variables and has safe bodies is sound
unfoldable pub SafeProgramsAreSound : Type 0
SafeProgramsAreSound = (p : Program) → IsFormed p → Conditions p → BodiesAreSafe p → IsSound p
