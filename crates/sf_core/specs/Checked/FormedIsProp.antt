-- A program is formed, and has its links, in one way at most, so that its type can keep the facts.
-- Ordinary: each part is an equation of numbers, an order, or a list of such.
use Rattle.std.specs.Prelude.{◌≡◌, ◌≢◌, ℕ, ◌+◌, ◌≤◌, length, Option, Some, None, List, [], ◌∷◌, slice_get}
use Rattle.std.specs.List.{All, IsDistinct-prop}
use Rattle.std.specs.Coded.{×_prop, Π_prop, →_prop, Unit-prop, le_prop, Coded-set, coded_ℕ, coded_bool, coded_list, coded_option}
use Rattle.sf_base.specs.declared.ids.FieldId.{FieldId}
use Rattle.sf_base.specs.declared.ids.ProcId.{ProcId}
use Rattle.sf_core.specs.declared.fields.Links.{Links}
use Rattle.sf_base.specs.declared.ids.Var.{Var}
use Rattle.sf_base.specs.declared.ids.Var.TheVariants.{Own, Shared}
use Rattle.sf_core.specs.declared.assertion.Operand.{Operand}
use Rattle.sf_core.specs.declared.assertion.Operand.TheVariants.{Known, Exists}
use Rattle.sf_core.specs.declared.assertion.Scope.{Scope}
use Rattle.sf_core.specs.declared.assertion.Test.{Test}
use Rattle.sf_core.specs.declared.assertion.Test.TheVariants.{True, Equal, Differ}
use Rattle.sf_core.specs.declared.command.Expr.{Expr}
use Rattle.sf_core.specs.declared.command.Expr.TheVariants.{Var as Variable, Nil, Int}
use Rattle.sf_core.specs.Assertions.Scopes.{overlap}
use Rattle.sf_core.specs.Program.Init.{HasNoConjunct, IsBare, IsInitAmong, init_name}
use Rattle.sf_core.specs.Program.Links.{AreLinks, next_name, back_name, left_name, right_name}
use Rattle.sf_core.specs.Program.Formed.{level_scopes, IsInBody, IsSettable, IsParameter, IsOfResource, ExprWithin, TestWithin, OperandWithin, FieldsWithin, LevelWithin, ConjunctsWithin, ConjunctWithin, AnnotationWithin, AssertionWithin, HasCounts, CallWithin, CommandWithin, BlockWithin, ProcedureWithin, IsFormed}
use Rattle.sf_core.specs.Program.Named.{IsFirstNamed}
use Rattle.sf_core.specs.Program.Syntax.{Conjunct, holds, points, segment, doubly, tree, choose, Level, level, Conjuncts, none, also, Call, Command, assign, look_up, mutate, new, dispose, if, while, call, fork, with, Block, done, then, Assertion, Procedure, Program}

-- two proofs of what can't be are the same
⊥-prop : IsProp ⊥
⊥-prop x y = absurd x

-- two numbers are equal in one way
number-prop : (m n : ℕ) → IsProp (m ≡ n)
number-prop m n = Coded-set coded_ℕ m n

-- two things differ in one way
different-prop : {A : Type 0} (x y : A) → IsProp (x ≢ y)
different-prop x y = →_prop ⊥-prop

-- what holds of each thing in one way holds of all in one way
All-prop : {A : Type 0} (P : A → Type 0) → ((x : A) → IsProp (P x)) → (xs : List A) → IsProp (All P xs)
All-prop P one xs = Π_prop (λ k. Π_prop (λ d. →_prop (one _)))

-- that a name is found at a number, or nowhere, holds in one way
pub IsFirstNamed-prop : (names : List (List ℕ)) (name : List ℕ) (answer : Option ℕ)
    → IsProp (IsFirstNamed names name answer)
IsFirstNamed-prop names name None = Π_prop (λ k. different-prop _ _)
IsFirstNamed-prop names name (Some k) = ×_prop (Coded-set (coded_option (coded_list coded_ℕ)) _ _)
    (Π_prop (λ j. →_prop (different-prop _ _)))

-- that a file has these links
pub AreLinks-prop : (fields : List (List ℕ)) (links : Links) → IsProp (AreLinks fields links)
AreLinks-prop fields links s t = λ i. record {
  next = IsFirstNamed-prop fields next_name _ s.next t.next i;
  back = IsFirstNamed-prop fields back_name _ s.back t.back i;
  left = IsFirstNamed-prop fields left_name _ s.left t.left i;
  right = IsFirstNamed-prop fields right_name _ s.right t.right i;
}

-- that of procedures with these names that one sets the resources up
pub IsInitAmong-prop : (names : List (List ℕ)) (init : Option ProcId) → IsProp (IsInitAmong names init)
IsInitAmong-prop names init = IsFirstNamed-prop names init_name _

-- that a variable may occur in a body
IsInBody-prop : (p : Program) (f : Procedure) (x : Var) → IsProp (IsInBody p f x)
IsInBody-prop p f (Own n) = le_prop
IsInBody-prop p f (Shared r i) = le_prop

-- that a command may set it
IsSettable-prop : (p : Program) (f : Procedure) (x : Var) → IsProp (IsSettable p f x)
IsSettable-prop p f (Own n) = ×_prop le_prop (→_prop le_prop)
IsSettable-prop p f (Shared r i) = le_prop

-- that it is a parameter, or a variable of a resource
IsParameter-prop : (p : Program) (f : Procedure) (x : Var) → IsProp (IsParameter p f x)
IsParameter-prop p f (Own n) = le_prop
IsParameter-prop p f (Shared r i) = le_prop

-- that it is a variable of that resource
IsOfResource-prop : (number count : ℕ) (x : Var) → IsProp (IsOfResource number count x)
IsOfResource-prop number count (Own n) = ⊥-prop
IsOfResource-prop number count (Shared r i) = ×_prop (number-prop _ _) le_prop

-- that the variables of an expression are in reach
ExprWithin-prop : (V : Var → Type 0) → ((x : Var) → IsProp (V x)) → (e : Expr) → IsProp (ExprWithin V e)
ExprWithin-prop V v (Variable x) = v x.var
ExprWithin-prop V v Nil = Unit-prop
ExprWithin-prop V v (Int i) = Unit-prop

-- that the sides of a test are
TestWithin-prop : {E : Type 0} (P : E → Type 0) → ((x : E) → IsProp (P x)) → (t : Test E)
    → IsProp (TestWithin P t)
TestWithin-prop P one True = Unit-prop
TestWithin-prop P one (Equal x y) = ×_prop (one x) (one y)
TestWithin-prop P one (Differ x y) = ×_prop (one x) (one y)

-- that an operand is
OperandWithin-prop : (V : Var → Type 0) → ((x : Var) → IsProp (V x)) → (made : List Scope) (x : Operand Expr)
    → IsProp (OperandWithin V made x)
OperandWithin-prop V v made (Known e) = ExprWithin-prop V v e
OperandWithin-prop V v made (Exists n) = Coded-set coded_bool _ _

-- that fields are there, each once, with values in reach
FieldsWithin-prop : (fields : List (List ℕ)) (P : Operand Expr → Type 0) → ((x : Operand Expr) → IsProp (P x))
    → (fs : List (FieldId × Operand Expr)) → IsProp (FieldsWithin fields P fs)
FieldsWithin-prop fields P one [] = Unit-prop
FieldsWithin-prop fields P one (f ∷ fs) = λ u v i. (
  le_prop u.0 v.0 i,
  one f.1 u.1 v.1 i,
  All-prop (λ (g : FieldId × Operand Expr). g.0.0 ≢ f.0.0)
      (λ g. different-prop g.0.0 f.0.0) fs u.2 v.2 i,
  FieldsWithin-prop fields P one fs u.3 v.3 i,
)

mutual
  -- that a level is in order
  LevelWithin-prop : (fields : List (List ℕ)) (V : Var → Type 0) → ((x : Var) → IsProp (V x))
      → (made : List Scope) (a : Level Expr) → IsProp (LevelWithin fields V made a)
  LevelWithin-prop fields V v made (level here cs) = ConjunctsWithin-prop fields V v (here ∷ made) cs

  -- that conjuncts are
  ConjunctsWithin-prop : (fields : List (List ℕ)) (V : Var → Type 0) → ((x : Var) → IsProp (V x))
      → (made : List Scope) (cs : Conjuncts Expr) → IsProp (ConjunctsWithin fields V made cs)
  ConjunctsWithin-prop fields V v made none = Unit-prop
  ConjunctsWithin-prop fields V v made (also c cs) =
      ×_prop (ConjunctWithin-prop fields V v made c) (ConjunctsWithin-prop fields V v made cs)

  -- that a conjunct is
  ConjunctWithin-prop : (fields : List (List ℕ)) (V : Var → Type 0) → ((x : Var) → IsProp (V x))
      → (made : List Scope) (c : Conjunct Expr) → IsProp (ConjunctWithin fields V made c)
  ConjunctWithin-prop fields V v made (holds q t) = TestWithin-prop _ (OperandWithin-prop V v made) t
  ConjunctWithin-prop fields V v made (points q x fs) =
      ×_prop (OperandWithin-prop V v made x) (FieldsWithin-prop fields _ (OperandWithin-prop V v made) fs)
  ConjunctWithin-prop fields V v made (segment q next x y) = λ s t i. (
    IsFirstNamed-prop fields next_name (Some next.0) s.0 t.0 i,
    OperandWithin-prop V v made x s.1 t.1 i,
    OperandWithin-prop V v made y s.2 t.2 i,
  )
  ConjunctWithin-prop fields V v made (doubly q next back x b l y) = λ s t i. (
    IsFirstNamed-prop fields next_name (Some next.0) s.0 t.0 i,
    IsFirstNamed-prop fields back_name (Some back.0) s.1 t.1 i,
    OperandWithin-prop V v made x s.2 t.2 i,
    OperandWithin-prop V v made b s.3 t.3 i,
    OperandWithin-prop V v made l s.4 t.4 i,
    OperandWithin-prop V v made y s.5 t.5 i,
  )
  ConjunctWithin-prop fields V v made (tree q left right x) = λ s t i. (
    IsFirstNamed-prop fields left_name (Some left.0) s.0 t.0 i,
    IsFirstNamed-prop fields right_name (Some right.0) s.1 t.1 i,
    OperandWithin-prop V v made x s.2 t.2 i,
  )
  ConjunctWithin-prop fields V v made (choose q c this that) = λ s t i. (
    TestWithin-prop _ (OperandWithin-prop V v made) c s.0 t.0 i,
    LevelWithin-prop fields V v made this s.1 t.1 i,
    LevelWithin-prop fields V v made that s.2 t.2 i,
  )

-- that an assertion's levels are in order
AnnotationWithin-prop : (fields : List (List ℕ)) (V : Var → Type 0) → ((x : Var) → IsProp (V x))
    → (a : Level Expr) → IsProp (AnnotationWithin fields V a)
AnnotationWithin-prop fields V v a s t = λ i. record {
  within = LevelWithin-prop fields V v [] a s.within t.within i;
  disjoint = IsDistinct-prop overlap (level_scopes a []) s.disjoint t.disjoint i;
  depth = le_prop s.depth t.depth i;
}

-- that an assertion is, with its names
AssertionWithin-prop : (fields : List (List ℕ)) (V : Var → Type 0) → ((x : Var) → IsProp (V x))
    → (a : Assertion) → IsProp (AssertionWithin fields V a)
AssertionWithin-prop fields V v a s t = λ i. record {
  annotation = AnnotationWithin-prop fields V v a.level s.annotation t.annotation i;
  named = All-prop (λ (s : Scope). s.first + s.count ≤ length a.names) (λ s. le_prop)
      (level_scopes a.level []) s.named t.named i;
  names = number-prop _ _ s.names t.names i;
}

-- that a call has as many arguments as its callee wants
HasCounts-prop : (g : Option Procedure) (c : Call) → IsProp (HasCounts g c)
HasCounts-prop None c = ⊥-prop
HasCounts-prop (Some g) c = ×_prop (number-prop _ _) (number-prop _ _)

-- that a call fits
CallWithin-prop : (p : Program) (f : Procedure) (c : Call) → IsProp (CallWithin p f c)
CallWithin-prop p f c s t = λ i. record {
  callee = HasCounts-prop (slice_get p.procedures c.callee.0) c s.callee t.callee i;
  references = All-prop _ (λ x. IsSettable-prop p f x.var) c.references s.references t.references i;
  no_init = Coded-set coded_bool _ _ s.no_init t.no_init i;
  values = All-prop _ (ExprWithin-prop _ (IsInBody-prop p f)) c.values s.values t.values i;
}

mutual
  -- that a command is in order
  CommandWithin-prop : (p : Program) (f : Procedure) (c : Command) → IsProp (CommandWithin p f c)
  CommandWithin-prop p f (assign q x e) = ×_prop (IsSettable-prop p f x.var)
      (ExprWithin-prop _ (IsInBody-prop p f) e)
  CommandWithin-prop p f (look_up q x e field) = λ s t i. (
    IsSettable-prop p f x.var s.0 t.0 i,
    ExprWithin-prop _ (IsInBody-prop p f) e s.1 t.1 i,
    le_prop s.2 t.2 i,
  )
  CommandWithin-prop p f (mutate q e field d) = λ s t i. (
    ExprWithin-prop _ (IsInBody-prop p f) e s.0 t.0 i,
    le_prop s.1 t.1 i,
    ExprWithin-prop _ (IsInBody-prop p f) d s.2 t.2 i,
  )
  CommandWithin-prop p f (new q x) = IsSettable-prop p f x.var
  CommandWithin-prop p f (dispose q e) = ExprWithin-prop _ (IsInBody-prop p f) e
  CommandWithin-prop p f (if q b c d) = λ s t i. (
    TestWithin-prop _ (ExprWithin-prop _ (IsInBody-prop p f)) b s.0 t.0 i,
    BlockWithin-prop p f c s.1 t.1 i,
    BlockWithin-prop p f d s.2 t.2 i,
  )
  CommandWithin-prop p f (while q b a c) = λ s t i. (
    TestWithin-prop _ (ExprWithin-prop _ (IsInBody-prop p f)) b s.0 t.0 i,
    AssertionWithin-prop _ _ (IsInBody-prop p f) a s.1 t.1 i,
    BlockWithin-prop p f c s.2 t.2 i,
  )
  CommandWithin-prop p f (call q c) = CallWithin-prop p f c
  CommandWithin-prop p f (fork q c d) = ×_prop (CallWithin-prop p f c) (CallWithin-prop p f d)
  CommandWithin-prop p f (with q r b c) = λ s t i. (
    le_prop s.0 t.0 i,
    TestWithin-prop _ (ExprWithin-prop _ (IsInBody-prop p f)) b s.1 t.1 i,
    BlockWithin-prop p f c s.2 t.2 i,
  )

  -- that commands are
  BlockWithin-prop : (p : Program) (f : Procedure) (b : Block) → IsProp (BlockWithin p f b)
  BlockWithin-prop p f done = Unit-prop
  BlockWithin-prop p f (then c b) = ×_prop (CommandWithin-prop p f c) (BlockWithin-prop p f b)

-- that a level has no conjunct
HasNoConjunct-prop : {E : Type 0} (a : Level E) → IsProp (HasNoConjunct a)
HasNoConjunct-prop (level made none) = Unit-prop
HasNoConjunct-prop (level made (also c cs)) = ⊥-prop

-- that a procedure is bare
IsBare-prop : (g : Procedure) → IsProp (IsBare g)
IsBare-prop g s t = λ i. record {
  references = number-prop _ _ s.references t.references i;
  values = number-prop _ _ s.values t.values i;
  pre = HasNoConjunct-prop g.pre.level s.pre t.pre i;
  post = HasNoConjunct-prop g.post.level s.post t.post i;
}

-- that a procedure is
ProcedureWithin-prop : (p : Program) (f : Procedure) → IsProp (ProcedureWithin p f)
ProcedureWithin-prop p f s t = λ i. record {
  declared_count = le_prop s.declared_count t.declared_count i;
  declared = le_prop s.declared t.declared i;
  primed = le_prop s.primed t.primed i;
  pre = AssertionWithin-prop _ _ (IsParameter-prop p f) f.pre s.pre t.pre i;
  post = AssertionWithin-prop _ _ (IsParameter-prop p f) f.post s.post t.post i;
  body = BlockWithin-prop p f f.body s.body t.body i;
  depth = le_prop s.depth t.depth i;
  init = →_prop (IsBare-prop f) s.init t.init i;
}

-- that a program is in order holds in one way
pub IsFormed-prop : (p : Program) → IsProp (IsFormed p)
IsFormed-prop p s t = λ i. record {
  procedures = Π_prop (λ k. Π_prop (λ f. →_prop (ProcedureWithin-prop p f))) s.procedures t.procedures i;
  resources = Π_prop (λ k. Π_prop (λ r. →_prop (AssertionWithin-prop _ _ (IsOfResource-prop k _)
      r.invariant))) s.resources t.resources i;
  procedure_count = le_prop s.procedure_count t.procedure_count i;
  resource_count = le_prop s.resource_count t.resource_count i;
  field_count = le_prop s.field_count t.field_count i;
  variables = le_prop s.variables t.variables i;
  one_init = Π_prop (λ j. Π_prop (λ k. Π_prop (λ f. Π_prop (λ g. →_prop (→_prop (→_prop (→_prop
      (number-prop j k)))))))) s.one_init t.one_init i;
}
