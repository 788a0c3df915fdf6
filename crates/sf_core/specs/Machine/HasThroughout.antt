-- HasThroughout: the resources that a procedure has through its whole body: all of them where it sets them up,
-- and else those that its contract mentions.
-- After the variable conditions of Berdine, Calcagno, O'Hearn, "Smallfoot" (2005).
use Rattle.std.specs.Prelude.{◌≡◌, ℕ, ◌<◌, true, length, Some, ◌⊎◌}
use Rattle.std.specs.List.{slice_get}
use Rattle.sf_base.specs.declared.ids.ProcId.{ProcId}
use Rattle.sf_base.specs.declared.ids.ResId.{ResId}
use Rattle.sf_base.specs.declared.ids.Var.TheVariants.{Shared}
use Rattle.sf_core.specs.Assertions.Occurs.{VarOccursIn}
use Rattle.sf_core.specs.Program.Init.{sets_up}
use Rattle.sf_core.specs.Program.Syntax.{Procedure, Program}

-- a variable of the resource occurs in the procedure's precondition or postcondition
pub record ContractMentions (p : Program) (f : ProcId) (r : ResId) : Type 0 where
  pub procedure : Procedure
  pub there : slice_get p.procedures f.0 ≡ Some procedure
  pub variable : ℕ
  pub occurs : VarOccursIn procedure.pre.level (Shared r variable)
      ⊎ VarOccursIn procedure.post.level (Shared r variable)

-- the procedure is the one that sets the resources up, and the resource is one of the program's
abbrev pub SetsUp : Program → ProcId → ResId → Type 0
SetsUp p f r = (sets_up p f ≡ true) × (r.0 < length p.resources)

-- HasThroughout: its contract mentions the resource, or it sets all of them up
abbrev pub HasThroughout : Program → ProcId → ResId → Type 0
HasThroughout p f r = ContractMentions p f r ⊎ SetsUp p f r
