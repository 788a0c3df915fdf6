-- The occurrences that are listed of a level are those that occur in it.
-- Names: `PART-is` says it of a PART.
use Rattle.std.proofs.Common.{◌≡◌, ◌↔◌, List, [], ◌∷◌, Contains, sym, ap}
use Rattle.std.specs.List.{flat_map}
use Rattle.sf_base.proofs.Elements.{contains-append, contains-nil, contains-none, contains-single, contains-single_of}
use Rattle.sf_base.specs.declared.ids.FieldId.{FieldId}
use Rattle.sf_core.specs.declared.assertion.Operand.{Operand}
use Rattle.sf_core.specs.declared.assertion.Operand.TheVariants.{Known, Exists}
use Rattle.sf_core.specs.declared.assertion.Test.{Test}
use Rattle.sf_core.specs.declared.assertion.Test.TheVariants.{True, Equal, Differ}
use Rattle.sf_core.specs.declared.command.Expr.{Expr}
use Rattle.sf_core.specs.declared.command.Expr.TheVariants.{Var as Variable, Nil, Int}
use Rattle.sf_core.specs.declared.command.Occurrence.{Occurrence}
use Rattle.sf_core.specs.Assertions.Occurs.{OccursIn, OccursInAll, OccursInOne, OccursInTest, OccursInFields}
use Rattle.sf_core.specs.Program.Heads.{operand_occurrences, test_occurrences, level_occurrences, conjuncts_occurrences, conjunct_occurrences}
use Rattle.sf_core.specs.Program.Syntax.{Conjunct, holds, points, segment, doubly, tree, choose, Level, level, Conjuncts, none, also}

module _ (x : Occurrence) where
  -- the occurrence as an operand
  abbrev it : Operand Expr
  it = Known (Variable x)

  operand-is : (o : Operand Expr) → Contains (operand_occurrences o) x ↔ (it ≡ o)
  operand-is (Known (Variable y)) = (
    λ c. ap (λ (z : Occurrence). Known (Variable z)) (sym (contains-single y x c)),
    λ e. contains-single_of y x (cc),
  )
  operand-is (Known Nil) = (λ c. absurd (contains-nil x c), λ e. absurd (cc))
  operand-is (Known (Int i)) = (λ c. absurd (contains-nil x c), λ e. absurd (cc))
  operand-is (Exists n) = (λ c. absurd (contains-nil x c), λ e. absurd (cc))

  test-is : (t : Test (Operand Expr)) → Contains (test_occurrences operand_occurrences t) x ↔ OccursInTest t it
  test-is True = contains-none x
  test-is (Equal a b) = contains-append _ _ x _ _ (operand-is a) (operand-is b)
  test-is (Differ a b) = contains-append _ _ x _ _ (operand-is a) (operand-is b)

  fields-is : (fs : List (FieldId × Operand Expr))
      → Contains (flat_map (λ f. operand_occurrences f.1) fs) x ↔ OccursInFields fs it
  fields-is [] = contains-none x
  fields-is (f ∷ fs) = contains-append _ _ x _ _ (operand-is f.1) (fields-is fs)

  mutual
    pub level-is : (l : Level Expr) → Contains (level_occurrences l) x ↔ OccursIn l it
    level-is (level made cs) = let all = conjuncts-is cs in (λ c. (all.0 c, tt), λ o. all.1 o.0)

    conjuncts-is : (cs : Conjuncts Expr) → Contains (conjuncts_occurrences cs) x ↔ OccursInAll cs it
    conjuncts-is none = contains-none x
    conjuncts-is (also c cs) = contains-append _ _ x _ _ (conjunct-is c) (conjuncts-is cs)

    conjunct-is : (c : Conjunct Expr) → Contains (conjunct_occurrences c) x ↔ OccursInOne c it
    conjunct-is (holds q t) = test-is t
    conjunct-is (points q root fs) = contains-append _ _ x _ _ (operand-is root) (fields-is fs)
    conjunct-is (segment q next from to) = contains-append _ _ x _ _ (operand-is from) (operand-is to)
    conjunct-is (doubly q next back from before last to) =
        contains-append _ _ x _ _ (operand-is from)
        (contains-append _ _ x _ _ (operand-is before)
        (contains-append _ _ x _ _ (operand-is last) (operand-is to)))
    conjunct-is (tree q left right root) = operand-is root
    conjunct-is (choose q t this that) =
        contains-append _ _ x _ _ (test-is t)
        (contains-append _ _ x _ _ (level-is this) (level-is that))
