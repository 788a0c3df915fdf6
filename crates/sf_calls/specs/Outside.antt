-- What occurs in commands: the regions that they enter, and, outside the regions of a resource, the
-- variables and the calls.
-- After the variable conditions of Berdine, Calcagno and O'Hearn, "Smallfoot" (2005). The condition of a
-- region counts as inside it.
use Rattle.std.specs.Prelude.{◌≡◌, ◌⊎◌, List, [], ◌∷◌, ◌++◌, Option, Some, None, Contains}
use Rattle.sf_base.specs.declared.ids.ProcId.{ProcId}
use Rattle.sf_base.specs.declared.ids.ResId.{ResId}
use Rattle.sf_base.specs.declared.ids.Var.{Var}
use Rattle.sf_base.specs.declared.ids.Var.TheVariants.{Own, Shared}
use Rattle.sf_core.specs.declared.command.Expr.{Expr}
use Rattle.sf_core.specs.declared.command.Occurrence.{Occurrence}
use Rattle.sf_core.specs.declared.command.Expr.TheVariants.{Var as Variable, Nil, Int}
use Rattle.sf_core.specs.Program.Heads.{Somewhere, head_calls, head_regions, occurrences_at}
use Rattle.sf_core.specs.Program.Syntax.{Block, Call, Command}

-- the resource whose variable it is
abbrev pub owner : Var → Option ResId
owner (Own n) = None
owner (Shared r i) = Some r

-- regions of those resources are none of the one that is left out
abbrev pub IsOutside : Option ResId → List ResId → Type 0
IsOutside None entered = Unit {0}
IsOutside (Some r) entered = ¬ Contains entered r

-- the variable occurs in an expression
abbrev pub OccursInExpr : Var → Expr → Type 0
OccursInExpr x (Variable y) = y.var ≡ x
OccursInExpr x Nil = ⊥
OccursInExpr x (Int i) = ⊥

-- the variable is one of those references
abbrev pub IsAmong : Var → List Occurrence → Type 0
IsAmong x [] = ⊥
IsAmong x (y ∷ ys) = (y.var ≡ x) ⊎ IsAmong x ys

-- the variable occurs in one of those values
abbrev pub OccursInValues : Var → List Expr → Type 0
OccursInValues x [] = ⊥
OccursInValues x (e ∷ es) = OccursInExpr x e ⊎ OccursInValues x es

-- the command makes a call of which that holds
abbrev pub Makes : Command → (Call → Type 0) → Type 0
Makes c P = (d : Call) × Contains (head_calls c) d × P d

-- the variable occurs in the commands outside the regions of its resource
abbrev pub OccursOutside : Var → Block → Type 0
OccursOutside x =
    Somewhere
    (λ s. IsOutside (owner x) (head_regions s.command ++ s.entered) × IsAmong x (occurrences_at s.command))

-- the commands call the procedure outside the regions of the resource that is left out
abbrev pub CallsIn : Option ResId → ProcId → Block → Type 0
CallsIn but g = Somewhere (λ s. IsOutside but s.entered × Makes s.command (λ d. d.callee ≡ g))

-- the commands have a region of the resource
abbrev pub EntersIn : ResId → Block → Type 0
EntersIn r = Somewhere (λ s. Contains (head_regions s.command) r)
