-- Faults: what is said of a breach of the conditions on variables: its kind, its place, and the name of
-- the variable or of the resource.
-- Ordinary: a message is its cause together with the word that the text has for it.
use Rattle.std.specs.Prelude.{◌≡◌, ℕ, List, Some, slice_get}
use Rattle.sf_base.specs.declared.ids.ProcId.{ProcId}
use Rattle.sf_base.specs.declared.ids.ResId.{ResId}
use Rattle.sf_base.specs.declared.ids.Var.{Var}
use Rattle.sf_base.specs.declared.ids.Var.TheVariants.{Own, Shared}
use Rattle.sf_core.specs.Program.Syntax.{Procedure, Resource, Program}
use Rattle.sf_calls.specs.declared.breach.Breach.{Breach}
use Rattle.sf_calls.specs.declared.breach.Breach.TheVariants.{NotHeld, Reentered, SameReference, ReferenceIsFree, ParallelShares}
use Rattle.sf_calls.specs.FirstBreach.{FirstBreach}
use Rattle.sf_vars.specs.declared.fault.VarFault.{VarFault}
use Rattle.sf_vars.specs.declared.fault.VarFault.TheVariants.{NotHeld as TellNotHeld, Reentered as TellReentered, SameReference as TellSameReference, ReferenceIsFree as TellReferenceIsFree, ParallelShares as TellParallelShares}

-- the name that the procedure's text has for the variable
abbrev pub IsVariableName : Program → ProcId → Var → List ℕ → Type 0
IsVariableName p f (Own n) name =
    (h : Procedure) × (slice_get p.procedures f.0 ≡ Some h) × (slice_get h.names n ≡ Some name)
IsVariableName p f (Shared r i) name =
    (q : Resource) × (slice_get p.resources r.0 ≡ Some q) × (slice_get q.variables i ≡ Some name)

-- the name of the resource
abbrev pub IsResourceName : Program → ResId → List ℕ → Type 0
IsResourceName p r name = (q : Resource) × (slice_get p.resources r.0 ≡ Some q) × (q.name ≡ name)

-- the name of the variable or of the resource by which the procedure breaks a condition
abbrev pub IsBreachName : Program → ProcId → Breach → List ℕ → Type 0
IsBreachName p f (NotHeld place x) name = IsVariableName p f x name
IsBreachName p f (Reentered place r) name = IsResourceName p r name
IsBreachName p f (SameReference place x) name = IsVariableName p f x name
IsBreachName p f (ReferenceIsFree place x) name = IsVariableName p f x name
IsBreachName p f (ParallelShares place x) name = IsVariableName p f x name

-- the breach that has that name
abbrev pub told_by : Breach → List ℕ → VarFault
told_by (NotHeld place x) name = TellNotHeld place name
told_by (Reentered place r) name = TellReentered place name
told_by (SameReference place x) name = TellSameReference place name
told_by (ReferenceIsFree place x) name = TellReferenceIsFree place name
told_by (ParallelShares place x) name = TellParallelShares place name

-- the fault tells the program's first breach
pub record IsFirstFault (p : Program) (fault : VarFault) : Type 0 where
  pub procedure : ProcId
  pub breach : Breach
  pub name : List ℕ
  pub first : FirstBreach p (Some (procedure, breach))
  pub named : IsBreachName p procedure breach name
  pub told : fault ≡ told_by breach name
