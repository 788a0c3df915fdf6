-- Around: what is held where one is in a procedure's body, and what parallel calls share.
-- After the variable conditions of Berdine, Calcagno and O'Hearn, "Smallfoot" (2005).
use Rattle.std.specs.Prelude.{◌⊎◌, List, Contains}
use Rattle.sf_base.specs.declared.ids.ProcId.{ProcId}
use Rattle.sf_base.specs.declared.ids.ResId.{ResId}
use Rattle.sf_base.specs.declared.ids.Var.{Var}
use Rattle.sf_base.specs.declared.ids.Var.TheVariants.{Own, Shared}
use Rattle.sf_core.specs.Machine.HasThroughout.{HasThroughout}
use Rattle.sf_core.specs.Program.Syntax.{Call, Program}
use Rattle.sf_calls.specs.Assigned.{MayChange}
use Rattle.sf_calls.specs.Outside.{OccursInValues}

-- in the body of f, inside regions of those resources: the resource is held through the whole body, or
-- entered around
abbrev pub IsHeld : Program → ProcId → (entered : List ResId) → ResId → Type 0
IsHeld p f entered r = HasThroughout p f r ⊎ Contains entered r

-- it is a variable of a resource that is not held
abbrev pub IsUnheld : Program → ProcId → (entered : List ResId) → Var → Type 0
IsUnheld p f entered (Own n) = ⊥
IsUnheld p f entered (Shared r i) = ¬ (IsHeld p f entered r)

-- what a call uses
abbrev pub Uses : Program → Call → Var → Type 0
Uses p c x = MayChange p c x ⊎ OccursInValues x c.values

-- one of two parallel calls may change what the other uses
abbrev pub Shares : Program → (left right : Call) → Var → Type 0
Shares p c d x = (MayChange p c x × Uses p d x) ⊎ (MayChange p d x × Uses p c x)
