-- Mapped: the conjuncts of an assertion with other things in place of what has a value, such as terms for expressions.
-- Ordinary: the map of a syntax tree.
use Rattle.std.specs.Prelude.{map}
use Rattle.sf_core.specs.declared.assertion.Operand.{Operand}
use Rattle.sf_core.specs.declared.assertion.Operand.TheVariants.{Known, Exists}
use Rattle.sf_core.specs.declared.assertion.Test.{Test}
use Rattle.sf_core.specs.declared.assertion.Test.TheVariants.{True, Equal, Differ}
use Rattle.sf_core.specs.Program.Syntax.{Conjunct, holds, points, segment, doubly, tree, choose, Level, level, Conjuncts, none, also}

-- an operand
abbrev pub operand_with : {E F : Type 0} → (E → F) → Operand E → Operand F
operand_with to (Known e) = Known (to e)
operand_with to (Exists n) = Exists n

-- a test
abbrev pub test_with : {E F : Type 0} → (E → F) → Test (Operand E) → Test (Operand F)
test_with to True = True
test_with to (Equal x y) = Equal (operand_with to x) (operand_with to y)
test_with to (Differ x y) = Differ (operand_with to x) (operand_with to y)

abbrev mutual
  -- a level
  pub level_with : {E F : Type 0} → (E → F) → Level E → Level F
  level_with to (level made cs) = level made (conjuncts_with to cs)

  -- conjuncts, in the same order
  pub conjuncts_with : {E F : Type 0} → (E → F) → Conjuncts E → Conjuncts F
  conjuncts_with to none = none
  conjuncts_with to (also c cs) = also (conjunct_with to c) (conjuncts_with to cs)

  -- one conjunct
  pub conjunct_with : {E F : Type 0} → (E → F) → Conjunct E → Conjunct F
  conjunct_with to (holds p x) = holds p (test_with to x)
  conjunct_with to (points p x fs) = points p (operand_with to x) (map (λ f. (f.0, operand_with to f.1)) fs)
  conjunct_with to (segment p f x y) = segment p f (operand_with to x) (operand_with to y)
  conjunct_with to (doubly p f g x b l y) =
      doubly p f g (operand_with to x) (operand_with to b) (operand_with to l) (operand_with to y)
  conjunct_with to (tree p l r x) = tree p l r (operand_with to x)
  conjunct_with to (choose p x this that) =
      choose p (test_with to x) (level_with to this) (level_with to that)
