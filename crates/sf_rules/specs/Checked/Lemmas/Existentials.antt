-- Which existentials occur in well-formed conjuncts: those that the levels around make.
-- Names: `PART-exists`.
use Rattle.std.specs.Prelude.{◌⊎◌}
use Rattle.std.proofs.Common.{◌≡◌, ℕ, true, false, List, [], ◌∷◌, sym, subst, inl, inr}
use Rattle.std.proofs.lemmas.Bool.{or_cases}
use Rattle.sf_base.specs.declared.ids.FieldId.{FieldId}
use Rattle.sf_base.specs.declared.ids.Var.{Var}
use Rattle.sf_core.specs.Assertions.Occurs.{OccursIn, OccursInAll, OccursInFields, OccursInOne, OccursInTest}
use Rattle.sf_core.specs.Assertions.Scopes.{is_made_by}
use Rattle.sf_core.specs.declared.assertion.Operand.{Operand}
use Rattle.sf_core.specs.declared.assertion.Operand.TheVariants.{Known, Exists}
use Rattle.sf_core.specs.declared.assertion.Scope.{Scope}
use Rattle.sf_core.specs.declared.assertion.Test.{Test}
use Rattle.sf_core.specs.declared.assertion.Test.TheVariants.{True, Equal, Differ}
use Rattle.sf_core.specs.declared.command.Expr.{Expr}
use Rattle.sf_core.specs.Program.Formed.{ConjunctWithin, ConjunctsWithin, FieldsWithin, LevelWithin, OperandWithin, TestWithin, is_made}
use Rattle.sf_core.specs.Program.Syntax.{Conjunct, holds, points, segment, doubly, tree, choose, Conjuncts, none, also, Level, level}

module _ (fields : List (List ℕ)) (V : Var → Type 0) (n : ℕ) where
  operand-exists : (made : List Scope) (x : Operand Expr) → OperandWithin V made x → Exists n ≡ x
      → is_made made n ≡ true
  operand-exists made (Known e) w i = absurd (cc)
  operand-exists made (Exists m) w i = let same : n ≡ m = cc in subst (λ k. is_made made k ≡ true) (sym same) w

  two-exist : (made : List Scope) (x y : Operand Expr) → OperandWithin V made x → OperandWithin V made y
      → (Exists n ≡ x) ⊎ (Exists n ≡ y) → is_made made n ≡ true
  two-exist made x y w v (inl i) = operand-exists made x w i
  two-exist made x y w v (inr i) = operand-exists made y v i

  four-exist : (made : List Scope) (x b l y : Operand Expr) → OperandWithin V made x → OperandWithin V made b
      → OperandWithin V made l → OperandWithin V made y
      → (Exists n ≡ x) ⊎ ((Exists n ≡ b) ⊎ ((Exists n ≡ l) ⊎ (Exists n ≡ y))) → is_made made n ≡ true
  four-exist made x b l y w v u t (inl i) = operand-exists made x w i
  four-exist made x b l y w v u t (inr (inl i)) = operand-exists made b v i
  four-exist made x b l y w v u t (inr (inr i)) = two-exist made l y u t i

  test-exists : (made : List Scope) (t : Test (Operand Expr)) → TestWithin (OperandWithin V made) t
      → OccursInTest t (Exists n) → is_made made n ≡ true
  test-exists made True w o = absurd o
  test-exists made (Equal x y) w o = two-exist made x y w.0 w.1 o
  test-exists made (Differ x y) w o = two-exist made x y w.0 w.1 o

  fields-exist : (made : List Scope) (fs : List (FieldId × Operand Expr))
      → FieldsWithin fields (OperandWithin V made) fs → OccursInFields fs (Exists n) → is_made made n ≡ true
  fields-exist made [] w o = absurd o
  fields-exist made (f ∷ fs) w (inl i) = operand-exists made f.1 w.1 i
  fields-exist made (f ∷ fs) w (inr o) = fields-exist made fs w.3 o

  mutual
    pub level-exists : (made : List Scope) (a : Level Expr) → LevelWithin fields V made a → OccursIn a (Exists n)
        → is_made made n ≡ true
    level-exists made (level here cs) w o =
        elim (or_cases (is_made_by here n) (is_made made n) (conjuncts-exist (here ∷ made) cs w o.0)) [
          | inl i ↦ absurd (let j : is_made_by here n ≡ false = o.1 in cc)
          | inr i ↦ i
        ]

    pub conjuncts-exist : (made : List Scope) (cs : Conjuncts Expr) → ConjunctsWithin fields V made cs
        → OccursInAll cs (Exists n) → is_made made n ≡ true
    conjuncts-exist made none w o = absurd o
    conjuncts-exist made (also c cs) w (inl o) = conjunct-exists made c w.0 o
    conjuncts-exist made (also c cs) w (inr o) = conjuncts-exist made cs w.1 o

    conjunct-exists : (made : List Scope) (c : Conjunct Expr) → ConjunctWithin fields V made c
        → OccursInOne c (Exists n) → is_made made n ≡ true
    conjunct-exists made (holds q t) w o = test-exists made t w o
    conjunct-exists made (points q x fs) w (inl i) = operand-exists made x w.0 i
    conjunct-exists made (points q x fs) w (inr o) = fields-exist made fs w.1 o
    conjunct-exists made (segment q next x y) w o = two-exist made x y w.1 w.2 o
    conjunct-exists made (doubly q next back x b l y) w o =
        four-exist made x b l y w.2 w.3 w.4 w.5 o
    conjunct-exists made (tree q left right x) w o = operand-exists made x w.2 o
    conjunct-exists made (choose q t this that) w (inl o) = test-exists made t w.0 o
    conjunct-exists made (choose q t this that) w (inr (inl o)) = level-exists made this w.1 o
    conjunct-exists made (choose q t this that) w (inr (inr o)) = level-exists made that w.2 o
