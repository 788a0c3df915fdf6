-- Which procedure an entry is, and why a name is none.
-- O'Hearn (2007); Brookes (2007): a program starts while no resource is held.
use Rattle.std.specs.Prelude.{◌≡◌, ◌⊎◌, true, false, List, Some, None, map}
use Rattle.sf_base.specs.declared.ids.ProcId.{ProcId}
use Rattle.sf_base.specs.declared.ids.ResId.{ResId}
use Rattle.sf_core.specs.Machine.HasThroughout.{HasThroughout}
use Rattle.sf_core.specs.Program.Init.{sets_up}
use Rattle.sf_core.specs.Program.Named.{IsFirstNamed}
use Rattle.sf_core.specs.Program.Syntax.{Program}
use Rattle.sf_state.specs.declared.fault.StartFault.{StartFault}
use Rattle.sf_state.specs.declared.fault.StartFault.TheVariants as fault
use Rattle.sf_lines.specs.Lines.{Text}

-- the names of the procedures
abbrev pub procedure_names : Program → List Text
procedure_names p = map (λ g. g.name) p.procedures

-- no resource's variable occurs in its pre or post
abbrev pub HoldsNone : Program → ProcId → Type 0
HoldsNone p f = (r : ResId) → HasThroughout p f r → ⊥

-- it is the first procedure of that name, holds no resource, and isn't the one that sets them up
pub record IsEntry (p : Program) (name : Text) (f : ProcId) : Type 0 where
  pub named : IsFirstNamed (procedure_names p) name (Some f.0)
  pub free : HoldsNone p f
  pub other : sets_up p f ≡ false

-- the first procedure of that name holds a resource, or is the one that sets them up
pub record IsHolding (p : Program) (name : Text) : Type 0 where
  pub procedure : ProcId
  pub named : IsFirstNamed (procedure_names p) name (Some procedure.0)
  pub holds : ((r : ResId) × HasThroughout p procedure r) ⊎ (sets_up p procedure ≡ true)

-- why a name is no entry: there is no such procedure, or it holds a resource or sets them up
abbrev pub IsEntryFault : Program → Text → StartFault → Type 0
IsEntryFault p name (fault.Unknown n) = (n ≡ name) × IsFirstNamed (procedure_names p) name None
IsEntryFault p name (fault.FreeEntry n) = (n ≡ name) × IsHolding p name
IsEntryFault p name (fault.BadLine n) = ⊥
IsEntryFault p name (fault.Twice n) = ⊥
IsEntryFault p name (fault.Missing n) = ⊥
IsEntryFault p name (fault.Unmet n) = ⊥
IsEntryFault p name (fault.LeftOver n) = ⊥
IsEntryFault p name fault.TooLong = ⊥
IsEntryFault p name fault.OutOfMemory = ⊥
