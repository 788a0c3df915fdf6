-- What occurs in an assertion: the variables, and the existentials that it takes from the scopes around it.
-- The usual free names of a formula with quantifiers.
use Rattle.std.specs.Prelude.{◌≡◌, ◌⊎◌, false, List, [], ◌∷◌}
use Rattle.sf_base.specs.declared.ids.FieldId.{FieldId}
use Rattle.sf_base.specs.declared.ids.Var.{Var}
use Rattle.sf_core.specs.declared.assertion.Operand.{Operand}
use Rattle.sf_core.specs.declared.assertion.Operand.TheVariants.{Known, Exists}
use Rattle.sf_core.specs.declared.assertion.Scope.{Scope}
use Rattle.sf_core.specs.declared.assertion.Test.{Test}
use Rattle.sf_core.specs.declared.assertion.Test.TheVariants.{True, Equal, Differ}
use Rattle.sf_core.specs.declared.command.Expr.{Expr}
use Rattle.sf_core.specs.declared.command.Expr.TheVariants.{Var as Variable}
use Rattle.sf_core.specs.declared.command.Occurrence.{Occurrence}
use Rattle.sf_core.specs.Assertions.Scopes.{is_made_by}
use Rattle.sf_core.specs.Program.Syntax.{Conjunct, holds, points, segment, doubly, tree, choose, Level, level, Conjuncts, none, also}

-- the operand is no existential that this scope makes
abbrev pub IsFromOutside : {E : Type 0} → Scope → Operand E → Type 0
IsFromOutside made (Known x) = Unit {0}
IsFromOutside made (Exists n) = is_made_by made n ≡ false

-- it is one of the two sides of a test
abbrev pub OccursInTest : {E : Type 0} → Test E → E → Type 0
OccursInTest True x = ⊥
OccursInTest (Equal y z) x = (x ≡ y) ⊎ (x ≡ z)
OccursInTest (Differ y z) x = (x ≡ y) ⊎ (x ≡ z)

-- it is the value of one of the fields
abbrev pub OccursInFields : {E : Type 0} → List (FieldId × E) → E → Type 0
OccursInFields [] x = ⊥
OccursInFields (f ∷ fs) x = (x ≡ f.1) ⊎ OccursInFields fs x

-- where an operand occurs as one from outside
abbrev mutual
  -- an operand occurs in a level, and is no existential that is made there or, further in, around it
  pub OccursIn : {E : Type 0} → Level E → Operand E → Type 0
  OccursIn (level made cs) x = OccursInAll cs x × IsFromOutside made x

  -- it occurs in one of the conjuncts
  pub OccursInAll : {E : Type 0} → Conjuncts E → Operand E → Type 0
  OccursInAll none x = ⊥
  OccursInAll (also c cs) x = OccursInOne c x ⊎ OccursInAll cs x

  -- it occurs in a conjunct: beside its root, fields, sides or test, in the branches of a choice
  pub OccursInOne : {E : Type 0} → Conjunct E → Operand E → Type 0
  OccursInOne (holds p t) x = OccursInTest t x
  OccursInOne (points p y fs) x = (x ≡ y) ⊎ OccursInFields fs x
  OccursInOne (segment p next y z) x = (x ≡ y) ⊎ (x ≡ z)
  OccursInOne (doubly p next back y b l z) x = (x ≡ y) ⊎ ((x ≡ b) ⊎ ((x ≡ l) ⊎ (x ≡ z)))
  OccursInOne (tree p left right y) x = x ≡ y
  OccursInOne (choose p t this that) x = OccursInTest t x ⊎ (OccursIn this x ⊎ OccursIn that x)

-- a variable occurs in a level
abbrev pub VarOccursIn : Level Expr → Var → Type 0
VarOccursIn a x = (at : Occurrence) × (at.var ≡ x) × OccursIn a (Known (Variable at))
