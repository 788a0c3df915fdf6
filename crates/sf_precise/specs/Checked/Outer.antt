-- Outer: the existentials that an assertion takes from the scopes around it, as a list of their
-- occurrences in text order.
-- The usual free names of a formula with quantifiers, listed.
use Rattle.std.specs.Prelude.{ℕ, not, List, [], ◌∷◌, ◌++◌, filter}
use Rattle.sf_base.specs.declared.ids.FieldId.{FieldId}
use Rattle.sf_core.specs.declared.assertion.Operand.{Operand}
use Rattle.sf_core.specs.declared.assertion.Operand.TheVariants.{Known, Exists}
use Rattle.sf_core.specs.declared.assertion.Test.{Test}
use Rattle.sf_core.specs.declared.assertion.Test.TheVariants.{True, Equal, Differ}
use Rattle.sf_core.specs.Assertions.Scopes.{is_made_by}
use Rattle.sf_core.specs.Program.Syntax.{Conjunct, holds, points, segment, doubly, tree, choose, Level, level, Conjuncts, none, also}

-- the existential that the operand is, if it is one
abbrev pub existential : {E : Type 0} → Operand E → List ℕ
existential (Known x) = []
existential (Exists n) = n ∷ []

-- those of a test's two sides
abbrev pub test_existentials : {E : Type 0} → Test (Operand E) → List ℕ
test_existentials True = []
test_existentials (Equal x y) = existential x ++ existential y
test_existentials (Differ x y) = existential x ++ existential y

-- those of four operands
abbrev pub of_four : {E : Type 0} → (from before last to : Operand E) → List ℕ
of_four from before last to =
    existential from ++ (existential before ++ (existential last ++ existential to))

-- those among the values of fields
abbrev pub field_existentials : {E : Type 0} → List (FieldId × Operand E) → List ℕ
field_existentials [] = []
field_existentials (f ∷ fs) = existential f.1 ++ field_existentials fs

-- those that an assertion takes from outside
abbrev mutual
  -- those of a level that are not made there, or further in where they are
  pub outer_of_level : {E : Type 0} → Level E → List ℕ
  outer_of_level (level made cs) = filter (λ n. not (is_made_by made n)) (outer_of_all cs)

  -- those of conjuncts, one conjunct after the other
  pub outer_of_all : {E : Type 0} → Conjuncts E → List ℕ
  outer_of_all none = []
  outer_of_all (also c cs) = outer_of c ++ outer_of_all cs

  -- those of one conjunct: of a choice those of its test, and those of its branches
  pub outer_of : {E : Type 0} → Conjunct E → List ℕ
  outer_of (holds p t) = test_existentials t
  outer_of (points p x fs) = existential x ++ field_existentials fs
  outer_of (segment p next x y) = existential x ++ existential y
  outer_of (doubly p next back x b z y) = of_four x b z y
  outer_of (tree p left right x) = existential x
  outer_of (choose p t this that) = test_existentials t ++ (outer_of_level this ++ outer_of_level that)
