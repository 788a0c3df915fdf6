-- What the heads of a well-formed body have is there: variables that the body may read, calls that fit,
-- resources of the file.
-- Names: `PART-within` says that what occurs in PART may be read.
use Rattle.std.proofs.Common.{◌<◌, List, [], ◌∷◌, ◌++◌, length, Contains, All, ℕ, refl, inl, inr, subst}
use Rattle.std.specs.List.{flat_map}
use Rattle.std.proofs.lemmas.List.Elements.{Contains-append_cases, All-head, All-tail}
use Rattle.sf_base.proofs.Elements.{contains-nil, contains-single, contains-cons}
use Rattle.sf_base.specs.declared.ids.FieldId.{FieldId}
use Rattle.sf_base.specs.declared.ids.ResId.{ResId}
use Rattle.sf_base.specs.declared.ids.Var.{Var}
use Rattle.sf_base.specs.declared.ids.Var.TheVariants.{Own, Shared}
use Rattle.sf_core.specs.declared.assertion.Operand.{Operand}
use Rattle.sf_core.specs.declared.assertion.Operand.TheVariants.{Known, Exists}
use Rattle.sf_core.specs.declared.assertion.Scope.{Scope}
use Rattle.sf_core.specs.declared.assertion.Test.{Test}
use Rattle.sf_core.specs.declared.assertion.Test.TheVariants.{True, Equal, Differ}
use Rattle.sf_core.specs.declared.command.Expr.{Expr}
use Rattle.sf_core.specs.declared.command.Expr.TheVariants.{Var as Variable, Nil, Int}
use Rattle.sf_core.specs.declared.command.Occurrence.{Occurrence}
use Rattle.sf_core.specs.Program.Formed.{IsInBody, IsSettable, ExprWithin, TestWithin, OperandWithin, FieldsWithin, LevelWithin, ConjunctsWithin, ConjunctWithin, CallWithin, CommandWithin, BlockWithin}
use Rattle.sf_core.specs.Program.Heads.{expr_occurrences, operand_occurrences, test_occurrences, level_occurrences, conjuncts_occurrences, conjunct_occurrences, call_occurrences, head_occurrences, head_calls, head_forks, head_regions, Site, sites, inner_sites}
use Rattle.sf_core.specs.Program.Syntax.{Conjunct, holds, points, segment, doubly, tree, choose, Level, level, Conjuncts, none, also, Call, Command, assign, look_up, mutate, new, dispose, if, while, call, fork, with, Block, done, then, Procedure, Program}

-- what occurs in each of those is such a variable
abbrev Within : (Var → Type 0) → List Occurrence → Type 0
Within V xs = (x : Occurrence) → Contains xs x → V x.var

within-nil : (V : Var → Type 0) → Within V []
within-nil V x c = absurd (contains-nil x c)

within-append : (V : Var → Type 0) (xs ys : List Occurrence) → Within V xs → Within V ys → Within V (xs ++ ys)
within-append V xs ys v w x c = elim (Contains-append_cases xs ys x c) [ inl k ↦ v x k | inr k ↦ w x k ]

within-cons : (V : Var → Type 0) (x : Occurrence) (xs : List Occurrence) → V x.var → Within V xs
    → Within V (x ∷ xs)
within-cons V x xs v w y c = elim ((contains-cons x xs y).0 c) [
  | inl e ↦ subst (λ (z : Occurrence). V z.var) e v
  | inr k ↦ w y k
]

expr-within : (V : Var → Type 0) (e : Expr) → ExprWithin V e → Within V (expr_occurrences e)
expr-within V (Variable x) w = within-cons V x [] w (within-nil V)
expr-within V Nil w = within-nil V
expr-within V (Int i) w = within-nil V

operand-within : (V : Var → Type 0) (made : List Scope) (o : Operand Expr) → OperandWithin V made o
    → Within V (operand_occurrences o)
operand-within V made (Known e) w = expr-within V e w
operand-within V made (Exists n) w = within-nil V

test-within : {E : Type 0} (V : Var → Type 0) (f : E → List Occurrence) (P : E → Type 0)
    → ((e : E) → P e → Within V (f e)) → (t : Test E) → TestWithin P t → Within V (test_occurrences f t)
test-within V f P each True w = within-nil V
test-within V f P each (Equal x y) w = within-append V (f x) (f y) (each x w.0) (each y w.1)
test-within V f P each (Differ x y) w = within-append V (f x) (f y) (each x w.0) (each y w.1)

fields-within : (fields : List (List ℕ)) (V : Var → Type 0) (made : List Scope)
    (fs : List (FieldId × Operand Expr))
    → FieldsWithin fields (OperandWithin V made) fs → Within V (flat_map (λ f. operand_occurrences f.1) fs)
fields-within fields V made [] w = within-nil V
fields-within fields V made (f ∷ fs) w =
    within-append V (operand_occurrences f.1) (flat_map (λ f. operand_occurrences f.1) fs)
    (operand-within V made f.1 w.1) (fields-within fields V made fs w.3)

mutual
  pub level-within : (fields : List (List ℕ)) (V : Var → Type 0) (made : List Scope) (l : Level Expr)
      → LevelWithin fields V made l → Within V (level_occurrences l)
  level-within fields V made (level here cs) w = conjuncts-within fields V (here ∷ made) cs w

  conjuncts-within : (fields : List (List ℕ)) (V : Var → Type 0) (made : List Scope) (cs : Conjuncts Expr)
      → ConjunctsWithin fields V made cs → Within V (conjuncts_occurrences cs)
  conjuncts-within fields V made none w = within-nil V
  conjuncts-within fields V made (also c cs) w =
      within-append V (conjunct_occurrences c) (conjuncts_occurrences cs)
      (conjunct-within fields V made c w.0) (conjuncts-within fields V made cs w.1)

  conjunct-within : (fields : List (List ℕ)) (V : Var → Type 0) (made : List Scope) (c : Conjunct Expr)
      → ConjunctWithin fields V made c → Within V (conjunct_occurrences c)
  conjunct-within fields V made (holds q t) w =
      test-within V operand_occurrences (OperandWithin V made) (operand-within V made) t w
  conjunct-within fields V made (points q root fs) w =
      within-append V (operand_occurrences root) (flat_map (λ f. operand_occurrences f.1) fs)
      (operand-within V made root w.0) (fields-within fields V made fs w.1)
  conjunct-within fields V made (segment q next from to) w =
      within-append V (operand_occurrences from) (operand_occurrences to)
      (operand-within V made from w.1) (operand-within V made to w.2)
  conjunct-within fields V made (doubly q next back from before last to) w =
      within-append V (operand_occurrences from)
      (operand_occurrences before ++ (operand_occurrences last ++ operand_occurrences to))
      (operand-within V made from w.2)
      (within-append V (operand_occurrences before) (operand_occurrences last ++ operand_occurrences to)
      (operand-within V made before w.3)
      (within-append V (operand_occurrences last) (operand_occurrences to)
      (operand-within V made last w.4) (operand-within V made to w.5)))
  conjunct-within fields V made (tree q left right root) w = operand-within V made root w.2
  conjunct-within fields V made (choose q t this that) w =
      within-append V (test_occurrences operand_occurrences t)
      (level_occurrences this ++ level_occurrences that)
      (test-within V operand_occurrences (OperandWithin V made) (operand-within V made) t w.0)
      (within-append V (level_occurrences this) (level_occurrences that)
      (level-within fields V made this w.1) (level-within fields V made that w.2))

-- a variable that may be set may be read
pub settable-readable : (p : Program) (h : Procedure) (x : Var) → IsSettable p h x → IsInBody p h x
settable-readable p h (Own n) w = w.0
settable-readable p h (Shared r i) w = w

references-within : (p : Program) (h : Procedure) (xs : List Occurrence) → All (λ x. IsSettable p h x.var) xs
    → Within (IsInBody p h) xs
references-within p h [] w = within-nil (IsInBody p h)
references-within p h (x ∷ xs) w =
    within-cons (IsInBody p h) x xs
    (settable-readable p h x.var (All-head (λ (x : Occurrence). IsSettable p h x.var) x xs w))
    (references-within p h xs (All-tail (λ (x : Occurrence). IsSettable p h x.var) x xs w))

values-within : (V : Var → Type 0) (es : List Expr) → All (ExprWithin V) es
    → Within V (flat_map expr_occurrences es)
values-within V [] w = within-nil V
values-within V (e ∷ es) w =
    within-append V (expr_occurrences e) (flat_map expr_occurrences es)
    (expr-within V e (All-head (ExprWithin V) e es w)) (values-within V es (All-tail (ExprWithin V) e es w))

pub call-within : (p : Program) (h : Procedure) (c : Call) → CallWithin p h c
    → (x : Occurrence) → Contains (call_occurrences c) x → IsInBody p h x.var
call-within p h c w =
    within-append (IsInBody p h) c.references (flat_map expr_occurrences c.values)
    (references-within p h c.references w.references) (values-within (IsInBody p h) c.values w.values)

pub head-within : (p : Program) (h : Procedure) (c : Command) → CommandWithin p h c
    → (x : Occurrence) → Contains (head_occurrences c) x → IsInBody p h x.var
head-within p h (assign q x e) w =
    within-cons (IsInBody p h) x (expr_occurrences e) (settable-readable p h x.var w.0)
    (expr-within (IsInBody p h) e w.1)
head-within p h (look_up q x e field) w =
    within-cons (IsInBody p h) x (expr_occurrences e) (settable-readable p h x.var w.0)
    (expr-within (IsInBody p h) e w.1)
head-within p h (mutate q e field d) w =
    within-append (IsInBody p h) (expr_occurrences e) (expr_occurrences d)
    (expr-within (IsInBody p h) e w.0) (expr-within (IsInBody p h) d w.2)
head-within p h (new q x) w =
    within-cons (IsInBody p h) x [] (settable-readable p h x.var w) (within-nil (IsInBody p h))
head-within p h (dispose q e) w = expr-within (IsInBody p h) e w
head-within p h (if q t c d) w =
    test-within (IsInBody p h) expr_occurrences (ExprWithin (IsInBody p h)) (expr-within (IsInBody p h)) t w.0
head-within p h (while q t i c) w =
    within-append (IsInBody p h) (test_occurrences expr_occurrences t) (level_occurrences i.level)
    (test-within (IsInBody p h) expr_occurrences (ExprWithin (IsInBody p h)) (expr-within (IsInBody p h)) t w.0)
    (level-within p.fields (IsInBody p h) [] i.level w.1.annotation.within)
head-within p h (call q c) w = within-nil (IsInBody p h)
head-within p h (fork q c d) w = within-nil (IsInBody p h)
head-within p h (with q r t c) w =
    test-within (IsInBody p h) expr_occurrences (ExprWithin (IsInBody p h)) (expr-within (IsInBody p h)) t w.1

-- each of its calls fits
pub calls-within : (p : Program) (h : Procedure) (c : Command) → CommandWithin p h c → (d : Call)
    → Contains (head_calls c) d → CallWithin p h d
calls-within p h (call q c) w d k = subst (CallWithin p h) (contains-single c d k) w
calls-within p h (fork q c e) w d k = elim ((contains-cons c (e ∷ []) d).0 k) [
  | inl s ↦ subst (CallWithin p h) s w.0
  | inr l ↦ subst (CallWithin p h) (contains-single e d l) w.1
]
calls-within p h (assign q x e) w d k = absurd (contains-nil d k)
calls-within p h (look_up q x e field) w d k = absurd (contains-nil d k)
calls-within p h (mutate q e field e') w d k = absurd (contains-nil d k)
calls-within p h (new q x) w d k = absurd (contains-nil d k)
calls-within p h (dispose q e) w d k = absurd (contains-nil d k)
calls-within p h (if q t c e) w d k = absurd (contains-nil d k)
calls-within p h (while q t i c) w d k = absurd (contains-nil d k)
calls-within p h (with q r t c) w d k = absurd (contains-nil d k)

-- and so do two parallel ones, which are among them
pub forks-calls : (c : Command) (e : Call × Call) → Contains (head_forks c) e
    → Contains (head_calls c) e.0 × Contains (head_calls c) e.1
forks-calls (fork q c d) e k =
    subst (λ (t : Call × Call). Contains (c ∷ d ∷ []) t.0 × Contains (c ∷ d ∷ []) t.1)
    (contains-single (c, d) e k) (
      (contains-cons c (d ∷ []) c).1 (inl refl),
      (contains-cons c (d ∷ []) d).1 (inr ((contains-cons d [] d).1 (inl refl))),
    )
forks-calls (assign q x d) e k = absurd (contains-nil e k)
forks-calls (look_up q x d field) e k = absurd (contains-nil e k)
forks-calls (mutate q d field d') e k = absurd (contains-nil e k)
forks-calls (new q x) e k = absurd (contains-nil e k)
forks-calls (dispose q d) e k = absurd (contains-nil e k)
forks-calls (if q t c d) e k = absurd (contains-nil e k)
forks-calls (while q t i c) e k = absurd (contains-nil e k)
forks-calls (call q c) e k = absurd (contains-nil e k)
forks-calls (with q r t c) e k = absurd (contains-nil e k)

-- the resource that it enters is there
pub regions-within : (p : Program) (h : Procedure) (c : Command) → CommandWithin p h c → (r : ResId)
    → Contains (head_regions c) r → r.0 < length p.resources
regions-within p h (with q s t c) w r k =
    subst (λ (z : ResId). z.0 < length p.resources) (contains-single s r k) w.0
regions-within p h (assign q x e) w r k = absurd (contains-nil r k)
regions-within p h (look_up q x e field) w r k = absurd (contains-nil r k)
regions-within p h (mutate q e field d) w r k = absurd (contains-nil r k)
regions-within p h (new q x) w r k = absurd (contains-nil r k)
regions-within p h (dispose q e) w r k = absurd (contains-nil r k)
regions-within p h (if q t c d) w r k = absurd (contains-nil r k)
regions-within p h (while q t i c) w r k = absurd (contains-nil r k)
regions-within p h (call q c) w r k = absurd (contains-nil r k)
regions-within p h (fork q c d) w r k = absurd (contains-nil r k)

-- the walk comes to well-formed commands
mutual
  pub sites-within : (p : Program) (h : Procedure) (es : List ResId) (b : Block) → BlockWithin p h b
      → (s : Site) → Contains (sites es b) s → CommandWithin p h s.command
  sites-within p h es done w s k = absurd (contains-nil s k)
  sites-within p h es (then c b) w s k =
      elim ((contains-cons (record { entered = es; command = c }) (inner_sites es c ++ sites es b) s).0 k) [
        | inl e ↦ subst (λ (t : Site). CommandWithin p h t.command) e w.0
        | inr l ↦ elim (Contains-append_cases (inner_sites es c) (sites es b) s l) [
          | inl m ↦ inner-within p h es c w.0 s m
          | inr m ↦ sites-within p h es b w.1 s m
        ]
      ]

  inner-within : (p : Program) (h : Procedure) (es : List ResId) (c : Command) → CommandWithin p h c
      → (s : Site) → Contains (inner_sites es c) s → CommandWithin p h s.command
  inner-within p h es (if q t c d) w s k = elim (Contains-append_cases (sites es c) (sites es d) s k) [
    | inl m ↦ sites-within p h es c w.1 s m
    | inr m ↦ sites-within p h es d w.2 s m
  ]
  inner-within p h es (while q t i c) w s k = sites-within p h es c w.2 s k
  inner-within p h es (with q r t c) w s k = sites-within p h (r ∷ es) c w.2 s k
  inner-within p h es (assign q x e) w s k = absurd (contains-nil s k)
  inner-within p h es (look_up q x e field) w s k = absurd (contains-nil s k)
  inner-within p h es (mutate q e field d) w s k = absurd (contains-nil s k)
  inner-within p h es (new q x) w s k = absurd (contains-nil s k)
  inner-within p h es (dispose q e) w s k = absurd (contains-nil s k)
  inner-within p h es (call q c) w s k = absurd (contains-nil s k)
  inner-within p h es (fork q c d) w s k = absurd (contains-nil s k)
