-- Which way the machine goes at a token that was looked at: what need not come.
use Rattle.std.proofs.Common.{◌≡◌, ℕ, List, [], ◌∷◌, ◌++◌, length, false, refl, ◌∙◌}
use Rattle.sf_ast.specs.declared.word.SurfaceExpr.TheVariants as e
use Rattle.sf_ast.specs.declared.word.SurfaceOperand.TheVariants as v
use Rattle.sf_parse.specs.Leaf.{Leaf, leaves}
use Rattle.sf_lex.specs.declared.token.Kind.TheVariants as tk
use Rattle.sf_parse.specs.Leaf as k
use Rattle.sf_lex.specs.declared.token.Token.{Token}
use Rattle.sf_parse.specs.Checked.Heads.{conjunct_next}
use Rattle.sf_parse.specs.declared.stop.Stop.{Stop}
use Rattle.sf_parse.specs.declared.stop.Stop.TheVariants.{Unexpected, TooDeep, OutOfMemory}
use Rattle.sf_parse.specs.Checked.Machine as m
use Rattle.sf_parse.specs.Checked.Machine.{Predicted, verdict, unexpected}
use Rattle.sf_parse.specs.Checked.Parser.{NotNext, FailsAt}
use Rattle.sf_parse.proofs.Machine.Decided.{conjunct_decided, refused}
use Rattle.sf_parse.proofs.Parser.Fronts.{left_of}

pub no_more_names : (ts : List Leaf) (st : List Predicted) → NotNext tk.Comma ts → verdict 0 ts (m.more_names ∷ st) ≡ verdict 0 ts st
no_more_names [] st h = refl
no_more_names (k.Comma ∷ r) st h = absurd (h refl)
no_more_names (t ∷ r) st h = refl

pub no_names : (ts : List Leaf) (st : List Predicted) → NotNext tk.Name ts → verdict 0 ts (m.maybe_names ∷ st) ≡ verdict 0 ts st
no_names [] st h = refl
no_names (k.Operand (v.Known (e.Name _)) ∷ r) st h = absurd (h refl)
no_names (t ∷ r) st h = refl

pub no_values : (ts : List Leaf) (st : List Predicted) → NotNext tk.Semicolon ts → verdict 0 ts (m.maybe_values ∷ st) ≡ verdict 0 ts st
no_values [] st h = refl
no_values (k.Semicolon ∷ r) st h = absurd (h refl)
no_values (t ∷ r) st h = refl

pub no_true : (ts : List Leaf) (st : List Predicted) → NotNext tk.True ts → verdict 0 ts (m.test ∷ st) ≡ verdict 0 ts (m.expression ∷ m.equality ∷ m.expression ∷ st)
no_true [] st h = refl
no_true (k.True _ ∷ r) st h = absurd (h refl)
no_true (k.Operand (v.Known _) ∷ r) st h = refl
no_true (t ∷ r) st h = refl

pub no_true_operand : (ts : List Leaf) (st : List Predicted) → NotNext tk.True ts → verdict 0 ts (m.operand_test ∷ st) ≡ verdict 0 ts (m.operand ∷ m.equality ∷ m.operand ∷ st)
no_true_operand [] st h = refl
no_true_operand (k.True _ ∷ r) st h = absurd (h refl)
no_true_operand (t ∷ r) st h = refl

pub no_equality : (ts : List Token) (st : List Predicted) → NotNext tk.EqualEqual (leaves ts) → NotNext tk.NotEqual (leaves ts) → verdict 0 (leaves ts) (m.equality ∷ st) ≡ unexpected (length ts)
no_equality ts st h i = left_of ts (m.equality ∷ st) (go (leaves ts) h i)
  where
    go : (us : List Leaf) → NotNext tk.EqualEqual us → NotNext tk.NotEqual us → verdict 0 us (m.equality ∷ st) ≡ unexpected (length us)
    go [] h i = refl
    go (k.EqualEqual ∷ r) h i = absurd (h refl)
    go (k.NotEqual ∷ r) h i = absurd (i refl)
    go (t ∷ r) h i = refl

pub no_fields : (ts : List Leaf) (st : List Predicted) → NotNext tk.Name ts → verdict 0 ts (m.maybe_fields ∷ st) ≡ verdict 0 ts st
no_fields [] st h = refl
no_fields (k.Operand (v.Known (e.Name _)) ∷ r) st h = absurd (h refl)
no_fields (t ∷ r) st h = refl

pub no_more_fields : (ts : List Leaf) (st : List Predicted) → NotNext tk.Comma ts → verdict 0 ts (m.more_fields ∷ st) ≡ verdict 0 ts st
no_more_fields [] st h = refl
no_more_fields (k.Comma ∷ r) st h = absurd (h refl)
no_more_fields (t ∷ r) st h = refl

pub no_relation : (ts : List Token) (st : List Predicted) → NotNext tk.EqualEqual (leaves ts) → NotNext tk.NotEqual (leaves ts) → NotNext tk.PointsTo (leaves ts) → verdict 0 (leaves ts) (m.relation ∷ st) ≡ unexpected (length ts)
no_relation ts st h i j = left_of ts (m.relation ∷ st) (go (leaves ts) h i j)
  where
    go : (us : List Leaf) → NotNext tk.EqualEqual us → NotNext tk.NotEqual us → NotNext tk.PointsTo us → verdict 0 us (m.relation ∷ st) ≡ unexpected (length us)
    go [] h i j = refl
    go (k.EqualEqual ∷ r) h i j = absurd (h refl)
    go (k.NotEqual ∷ r) h i j = absurd (i refl)
    go (k.PointsTo ∷ r) h i j = absurd (j refl)
    go (t ∷ r) h i j = refl

pub conjunct_fails : (d : ℕ) (ts : List Leaf) (st : List Predicted) → conjunct_next ts ≡ false → verdict 0 ts (m.conjunct d ∷ st) ≡ unexpected (length ts)
conjunct_fails d [] st h = refl
conjunct_fails d (t ∷ r) st h = rw (refused (conjunct_decided d t r) h) refl

pub no_conjunct : (d : ℕ) (ts : List Token) (st : List Predicted) → conjunct_next (leaves ts) ≡ false → verdict 0 (leaves ts) (m.conjunct d ∷ st) ≡ unexpected (length ts)
no_conjunct d ts st h = left_of ts (m.conjunct d ∷ st) (conjunct_fails d (leaves ts) st h)

pub no_annotation : (ts : List Leaf) (st : List Predicted) → NotNext tk.OpenSquare ts → verdict 0 ts (m.maybe_annotation ∷ st) ≡ verdict 0 ts st
no_annotation [] st h = refl
no_annotation (k.OpenSquare ∷ r) st h = absurd (h refl)
no_annotation (t ∷ r) st h = refl

-- a fault of what is read next is a fault of the whole
pub fails_as : (e : Stop) (ss more below : List Predicted) (ts us : List Token) → ((st : List Predicted) → verdict 0 (leaves ts) (ss ++ st) ≡ verdict 0 (leaves us) (more ++ (below ++ st))) → FailsAt e more us → FailsAt e ss ts
fails_as (Unexpected n) ss more below ts us same h = λ st. same st ∙ h (below ++ st)
fails_as (TooDeep n) ss more below ts us same h = λ st. same st ∙ h (below ++ st)
fails_as OutOfMemory ss more below ts us same h = tt

pub ruleset choices = (no_more_names, no_names, no_values, no_true, no_true_operand, no_equality, no_fields, no_more_fields, no_relation, no_conjunct, no_annotation)
