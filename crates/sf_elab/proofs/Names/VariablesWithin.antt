-- Names that stand for something stand for what may be named there: expressions, tests and operands.
use Rattle.std.proofs.Common.{◌≡◌, ◌≢◌, ◌<◌, ℕ, true, false, cond, List, [], ◌∷◌, length, Option, Some, None, is_some, unwrap_or, refl, sym, ◌∙◌, ap, subst}
use Rattle.std.proofs.lemmas.List.Elements.{All-from_recursion}
use Rattle.std.specs.List.{AllByRecursion}
use Rattle.sf_base.proofs.Options.{unwrap-some}
use Rattle.sf_ast.specs.declared.assertion.SurfaceField.{SurfaceField}
use Rattle.sf_ast.specs.declared.word.SurfaceExpr.{SurfaceExpr}
use Rattle.sf_ast.specs.declared.word.SurfaceExpr.TheVariants as e
use Rattle.sf_ast.specs.declared.word.SurfaceOperand.{SurfaceOperand}
use Rattle.sf_ast.specs.declared.word.SurfaceOperand.TheVariants as o
use Rattle.sf_ast.specs.declared.word.SurfaceTest.{SurfaceTest}
use Rattle.sf_ast.specs.declared.word.SurfaceTest.TheVariants as t
use Rattle.sf_ast.specs.declared.word.Word.{Word}
use Rattle.sf_base.specs.declared.ids.FieldId.{FieldId}
use Rattle.sf_base.specs.declared.ids.Var.{Var}
use Rattle.sf_base.specs.declared.ids.Var.TheVariants.{Own}
use Rattle.sf_core.specs.declared.assertion.Operand.{Operand}
use Rattle.sf_core.specs.declared.assertion.Scope.{Scope}
use Rattle.sf_core.specs.declared.command.Expr.{Expr}
use Rattle.sf_core.specs.Program.Formed.{ExprWithin, TestWithin, OperandWithin, FieldsWithin, is_made}
use Rattle.sf_elab.specs.declared.fault.Fault.{Fault}
use Rattle.sf_elab.specs.declared.fault.Fault.TheVariants.{Unknown, Foreign, Twice}
use Rattle.sf_elab.specs.declared.levels.Levels.{Levels}
use Rattle.sf_elab.specs.Annotations.Assertions.{operand_of, operand_faults, values_of, values_faults}
use Rattle.sf_elab.specs.Annotations.Flat.{words_in_operand, words_in_test, words_in_fields}
use Rattle.sf_elab.specs.Files.Faults.{where_}
use Rattle.sf_elab.specs.Names.InEnv.{Env, variable, otherwise, occurrence, variable_faults, expr_of, expr_faults, test_of, test_faults, field_of, field_faults}
use Rattle.sf_elab.specs.Names.Table.{Table, find, has, declare}
use Rattle.sf_elab.specs.Names.Texts.{text}
use Rattle.sf_elab.proofs.Annotations.ExistentialsMade.{AreMade, AreReached, reached_both}
use Rattle.sf_elab.proofs.Names.NamedFields.{AreNamed, field_there, fields_apart}
use Rattle.sf_elab.proofs.Names.NoFaults.{none_both, none_four, none_where, there}
use Rattle.sf_elab.proofs.Names.TableLaws.{kept_declared, there_declared}

-- what is in sight: variables of that kind, and those fields
pub record Sees (fields : List (List ℕ)) (V : Var → Type 0) (i : Env) : Type 0 where
  pub variables : (w : Word) (v : Var) → variable i w ≡ Some v → V v
  pub named : AreNamed fields i.declared.fields

-- a name is one of its own variables, or else one of those of resources
pub seen_otherwise : (V : Var → Type 0) (a b : Option Var) (v : Var) → ((v : Var) → a ≡ Some v → V v) → ((v : Var) → b ≡ Some v → V v) → otherwise a b ≡ Some v → V v
seen_otherwise V None b v p q h = q v h
seen_otherwise V (Some a) b v p q h = p v h

pub occurrence_within : {fields : List (List ℕ)} {V : Var → Type 0} {i : Env} → Sees fields V i → (w : Word) → variable_faults i w ≡ [] → V (occurrence i w).var
occurrence_within {fields} {V} {i} see w h =
    let found = there (variable i w) (cond i.in_invariant (Foreign w) (Unknown w)) h in
    let is : unwrap_or (variable i w) (Own 0) ≡ found.0 = unwrap-some (variable i w) found.0 (Own 0) found.1 in
    subst V (sym is) (see.variables w found.0 found.1)

pub expr_within : {fields : List (List ℕ)} {V : Var → Type 0} {i : Env} → Sees fields V i → (x : SurfaceExpr) → expr_faults i x ≡ [] → ExprWithin V (expr_of i x)
expr_within see (e.Name w) h = occurrence_within see w h
expr_within see _ h = tt

pub test_within : {E F : Type 0} (P : F → Type 0) (side : E → F) (faults : E → List Fault) → ((x : E) → faults x ≡ [] → P (side x)) → (t : SurfaceTest E) → test_faults faults t ≡ [] → TestWithin P (test_of side t)
test_within P side faults one (t.True p) h = tt
test_within P side faults one (t.Equal x y) h = let both = none_both (faults x) (faults y) h in (one x both.0, one y both.1)
test_within P side faults one (t.Differ x y) h = let both = none_both (faults x) (faults y) h in (one x both.0, one y both.1)

-- the field of a name that is there
pub field_within : {fields : List (List ℕ)} {V : Var → Type 0} {i : Env} → Sees fields V i → (w : Word) → field_faults i w ≡ [] → (field_of i w).0 < length fields
field_within {fields} {V} {i} see w h =
    let found = there (find (text i.bytes w) i.declared.fields) (Unknown w) h in
    let is : field_of i w ≡ found.0 = unwrap-some (find (text i.bytes w) i.declared.fields) found.0 (record { 0 = 0 }) found.1 in
    subst (λ (f : FieldId). f.0 < length fields) (sym is) (field_there fields i.declared.fields (text i.bytes w) found.0 see.named found.1)

-- fields of two names differ
pub two_fields : {fields : List (List ℕ)} {V : Var → Type 0} {i : Env} → Sees fields V i → (v w : Word) → field_faults i v ≡ [] → field_faults i w ≡ [] → text i.bytes w ≢ text i.bytes v → (field_of i w).0 ≢ (field_of i v).0
two_fields {fields} {V} {i} see v w h j apart same =
    let one = there (find (text i.bytes v) i.declared.fields) (Unknown v) h in
    let two = there (find (text i.bytes w) i.declared.fields) (Unknown w) j in
    let is_one : field_of i v ≡ one.0 = unwrap-some (find (text i.bytes v) i.declared.fields) one.0 (record { 0 = 0 }) one.1 in
    let is_two : field_of i w ≡ two.0 = unwrap-some (find (text i.bytes w) i.declared.fields) two.0 (record { 0 = 0 }) two.1 in
    let equal : FieldId.0 two.0 ≡ FieldId.0 one.0 = sym (ap (λ (f : FieldId). f.0) is_two) ∙ same ∙ ap (λ (f : FieldId). f.0) is_one in
    apart (fields_apart fields i.declared.fields (text i.bytes w) (text i.bytes v) two.0 one.0 see.named two.1 one.1 equal)

-- existentials in reach are made
pub operand_within : {fields : List (List ℕ)} {V : Var → Type 0} {i : Env} → Sees fields V i → (made : List Scope) (l : Levels) → AreMade made l.reach → (x : SurfaceOperand) → AreReached i.bytes l.reach (words_in_operand x) → operand_faults i x ≡ []
    → OperandWithin V made (operand_of i l x)
operand_within see made l m (o.Known x) r h = expr_within see x h
operand_within {fields} {V} {i} see made l m (o.Existential w) r h = go (find (text i.bytes w) l.reach) refl r.0
  where
    go : (o : Option ℕ) → find (text i.bytes w) l.reach ≡ o → is_some o ≡ true → is_made made (unwrap_or o 0) ≡ true
    go None e k = absurd cc
    go (Some n) e k = m (text i.bytes w) n e

pub operand_test_within : {fields : List (List ℕ)} {V : Var → Type 0} {i : Env} → Sees fields V i → (made : List Scope) (l : Levels) → AreMade made l.reach → (t : SurfaceTest SurfaceOperand) → AreReached i.bytes l.reach (words_in_test t)
    → test_faults (operand_faults i) t ≡ [] → TestWithin (OperandWithin V made) (test_of (operand_of i l) t)
operand_test_within see made l m (t.True p) r h = tt
operand_test_within {fields} {V} {i} see made l m (t.Equal x y) r h =
    let both = none_both (operand_faults i x) (operand_faults i y) h in
    let words = reached_both i.bytes l.reach (words_in_operand x) (words_in_operand y) r in
    (operand_within see made l m x words.0 both.0, operand_within see made l m y words.1 both.1)
operand_test_within {fields} {V} {i} see made l m (t.Differ x y) r h =
    let both = none_both (operand_faults i x) (operand_faults i y) h in
    let words = reached_both i.bytes l.reach (words_in_operand x) (words_in_operand y) r in
    (operand_within see made l m x words.0 both.0, operand_within see made l m y words.1 both.1)

-- a field that is given already is not given again
not_again : (i : Env) (given : Table FieldId) (n : List ℕ) (fs : List SurfaceField) → has n given ≡ true → values_faults i given fs ≡ [] → AllByRecursion (λ (f : SurfaceField). (text i.bytes f.name ≢ n) × (field_faults i f.name ≡ [])) fs
not_again i given n [] k h = tt
not_again i given n (f ∷ fs) k h =
    let all = none_four (field_faults i f.name) (where_ (has (text i.bytes f.name) given) (Twice f.name)) (operand_faults i f.value) (values_faults i (declare (text i.bytes f.name) (field_of i f.name) given) fs) h in
    let new : has (text i.bytes f.name) given ≡ false = none_where (has (text i.bytes f.name) given) (Twice f.name) all.1 in
    let apart : text i.bytes f.name ≢ n = λ same. (let old : has (text i.bytes f.name) given ≡ true = subst (λ m. has m given ≡ true) (sym same) k in absurd cc) in
    ((apart, all.0), not_again i (declare (text i.bytes f.name) (field_of i f.name) given) n fs (kept_declared n (text i.bytes f.name) (field_of i f.name) given k) all.3)

others_differ : {fields : List (List ℕ)} {V : Var → Type 0} {i : Env} → Sees fields V i → (l : Levels) (v : Word) (fs : List SurfaceField) → field_faults i v ≡ [] → AllByRecursion (λ (f : SurfaceField). (text i.bytes f.name ≢ text i.bytes v) × (field_faults i f.name ≡ [])) fs
    → AllByRecursion (λ (g : FieldId × Operand Expr). g.0.0 ≢ (field_of i v).0) (values_of i l fs)
others_differ see l v [] h k = tt
others_differ see l v (f ∷ fs) h k = (two_fields see v f.name h k.0.1 k.0.0, others_differ see l v fs h k.1)

-- the fields of a cell are there, and each is given once
pub values_within : {fields : List (List ℕ)} {V : Var → Type 0} {i : Env} → Sees fields V i → (made : List Scope) (l : Levels) → AreMade made l.reach → (given : Table FieldId) (fs : List SurfaceField) → AreReached i.bytes l.reach (words_in_fields fs)
    → values_faults i given fs ≡ [] → FieldsWithin fields (OperandWithin V made) (values_of i l fs)
values_within see made l m given [] r h = tt
values_within {fields} {V} {i} see made l m given (f ∷ fs) r h =
    let more : Table FieldId = declare (text i.bytes f.name) (field_of i f.name) given in
    let all = none_four (field_faults i f.name) (where_ (has (text i.bytes f.name) given) (Twice f.name)) (operand_faults i f.value) (values_faults i more fs) h in
    let words = reached_both i.bytes l.reach (words_in_operand f.value) (words_in_fields fs) r in
    let others = not_again i more (text i.bytes f.name) fs (there_declared (text i.bytes f.name) (field_of i f.name) given) all.3 in (
      field_within see f.name all.0,
      operand_within see made l m f.value words.0 all.2,
      All-from_recursion (λ (g : FieldId × Operand Expr). g.0.0 ≢ (field_of i f.name).0) (values_of i l fs) (others_differ see l f.name fs all.0 others),
      values_within see made l m more fs words.1 all.3,
    )
