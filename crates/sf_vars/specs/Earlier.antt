-- Earlier: which of two breaches comes first, by where they are and of which kind they are.
-- After the variable conditions of Berdine, Calcagno and O'Hearn, "Smallfoot" (2005): procedures in file
-- order, commands in text order, kinds by their numbers. FirstBreach goes on: text order within a kind.
use Rattle.std.specs.Prelude.{◌≡◌, ◌⊎◌, ◌<◌, ℕ, [], Some, slice_get}
use Rattle.sf_base.specs.declared.ids.ProcId.{ProcId}
use Rattle.sf_core.specs.Program.Heads.{Site, sites}
use Rattle.sf_core.specs.Program.Syntax.{Procedure, Program}
use Rattle.sf_calls.specs.declared.breach.Breach.{Breach}
use Rattle.sf_calls.specs.declared.breach.Breach.TheVariants.{NotHeld, Reentered, SameReference, ReferenceIsFree, ParallelShares}
use Rattle.sf_calls.specs.Breaks.{BreaksAt}

-- the number of a breach's kind
abbrev pub kind_of : Breach → ℕ
kind_of (NotHeld place x) = 30
kind_of (Reentered place r) = 31
kind_of (SameReference place x) = 32
kind_of (ReferenceIsFree place x) = 33
kind_of (ParallelShares place x) = 34

-- a breach and where it is: in which procedure, and at which of its commands, numbered in text order, each
-- before those inside it
pub record Located : Type 0 where
  pub procedure : ProcId
  pub command : ℕ
  pub breach : Breach

-- the program has it there
pub record IsLocated (p : Program) (l : Located) : Type 0 where
  pub body : Procedure
  pub there : slice_get p.procedures l.procedure.0 ≡ Some body
  pub site : Site
  pub at : slice_get (sites [] body.body) l.command ≡ Some site
  pub breaks : BreaksAt p l.procedure l.breach site

-- the one is in a procedure before that of the other; or there, at a command before it; or there, of a kind
-- before it
abbrev pub IsEarlierBreach : Located → Located → Type 0
IsEarlierBreach d e =
    (d.procedure.0 < e.procedure.0)
    ⊎ ((d.procedure ≡ e.procedure)
    × ((d.command < e.command) ⊎ ((d.command ≡ e.command) × (kind_of d.breach < kind_of e.breach))))
