-- What every program keeps by its type: numbers of things that are there, calls that fit, limits that are met.
-- After the conditions on programs of Berdine, Calcagno, O'Hearn, "Smallfoot" (2005), in this project's own profile.
use Rattle.std.specs.Prelude.{◌≡◌, ◌≢◌, ℕ, suc, ◌+◌, ◌<◌, ◌≤◌, max, IsTrue, Bool, true, false, Option, Some, None, List, [], ◌∷◌, length, slice_get}
use Rattle.std.specs.List.{All, IsDistinct, list_any, sum_by}
use Rattle.sf_base.specs.declared.ids.FieldId.{FieldId}
use Rattle.sf_base.specs.declared.ids.Var.{Var}
use Rattle.sf_base.specs.declared.ids.Var.TheVariants.{Own, Shared}
use Rattle.sf_base.specs.declared.limits.TheConstants.{PROCEDURES, RESOURCES, FIELDS, OWN_VARIABLES, RESOURCE_VARIABLES, NESTING}
use Rattle.sf_core.specs.declared.assertion.Operand.{Operand}
use Rattle.sf_core.specs.declared.assertion.Operand.TheVariants.{Known, Exists}
use Rattle.sf_core.specs.declared.assertion.Scope.{Scope}
use Rattle.sf_core.specs.declared.assertion.Test.{Test}
use Rattle.sf_core.specs.declared.assertion.Test.TheVariants.{True, Equal, Differ}
use Rattle.sf_core.specs.declared.command.Expr.{Expr}
use Rattle.sf_core.specs.declared.command.Expr.TheVariants.{Var as Variable, Nil, Int}
use Rattle.sf_core.specs.Assertions.Scopes.{is_made_by, overlap}
use Rattle.sf_core.specs.Program.Init.{IsBare, is_init, sets_up}
use Rattle.sf_core.specs.Program.Links.{next_name, back_name, left_name, right_name}
use Rattle.sf_core.specs.Program.Named.{IsFirstNamed}
use Rattle.sf_core.specs.Program.Syntax.{Conjunct, holds, points, segment, doubly, tree, choose, Level, level, Conjuncts, none, also, Call, Command, assign, look_up, mutate, new, dispose, if, while, call, fork, with, Block, done, then, Assertion, Procedure, Resource, Program}

-- how many variables a resource has: none where there is no such resource
abbrev pub variable_count : Option Resource → ℕ
variable_count None = 0
variable_count (Some r) = length r.variables

-- a variable that the body of f may read
abbrev pub IsInBody : Program → Procedure → Var → Type 0
IsInBody p f (Own n) = n < length f.names
IsInBody p f (Shared r i) = i < variable_count (slice_get p.resources r.0)

-- a variable that the body of f may set or pass as a reference: no value parameter
abbrev pub IsSettable : Program → Procedure → Var → Type 0
IsSettable p f (Own n) = (n < length f.names) × (n < f.references + f.values → n < f.references)
IsSettable p f (Shared r i) = i < variable_count (slice_get p.resources r.0)

-- a variable that f's pre and post may mention: no local
abbrev pub IsParameter : Program → Procedure → Var → Type 0
IsParameter p f (Own n) = n < f.references + f.values
IsParameter p f (Shared r i) = i < variable_count (slice_get p.resources r.0)

-- a variable that the invariant of the resource of that number may mention: its own ones
abbrev pub IsOfResource : (number count : ℕ) → Var → Type 0
IsOfResource number count (Own n) = ⊥
IsOfResource number count (Shared r i) = (r.0 ≡ number) × (i < count)

-- an expression mentions only those variables
abbrev pub ExprWithin : (Var → Type 0) → Expr → Type 0
ExprWithin V (Variable x) = V x.var
ExprWithin V Nil = Unit {0}
ExprWithin V (Int i) = Unit {0}

-- what a test compares is all of that kind
abbrev pub TestWithin : {E : Type 0} → (E → Type 0) → Test E → Type 0
TestWithin P True = Unit {0}
TestWithin P (Equal x y) = P x × P y
TestWithin P (Differ x y) = P x × P y

-- the existential is one of those that these levels make
abbrev pub is_made : List Scope → ℕ → Bool
is_made made n = list_any (λ s. is_made_by s n) made

-- an operand mentions only those variables, and existentials of those levels
abbrev pub OperandWithin : (Var → Type 0) → List Scope → Operand Expr → Type 0
OperandWithin V made (Known e) = ExprWithin V e
OperandWithin V made (Exists n) = IsTrue (is_made made n)

-- the fields of a points-to are there, each at most once, with operands of that kind
abbrev pub FieldsWithin : List (List ℕ) → (Operand Expr → Type 0) → List (FieldId × Operand Expr) → Type 0
FieldsWithin fields P [] = Unit {0}
FieldsWithin fields P (f ∷ fs) = (f.0.0 < length fields) × P f.1 × All (λ g. g.0.0 ≢ f.0.0) fs
    × FieldsWithin fields P fs

-- what an annotation may mention: only those variables, existentials of the levels around it, and fields that
-- are there
abbrev mutual
  -- a level may mention the existentials that it makes, besides those of the levels around it
  pub LevelWithin : List (List ℕ) → (Var → Type 0) → List Scope → Level Expr → Type 0
  LevelWithin fields V made (level here cs) = ConjunctsWithin fields V (here ∷ made) cs

  -- each of the conjuncts is well-formed
  pub ConjunctsWithin : List (List ℕ) → (Var → Type 0) → List Scope → Conjuncts Expr → Type 0
  ConjunctsWithin fields V made none = Unit {0}
  ConjunctsWithin fields V made (also c cs) = ConjunctWithin fields V made c
      × ConjunctsWithin fields V made cs

  -- a conjunct's operands are well-formed, its fields are there, and a segment or a tree has the fields of
  -- that name
  pub ConjunctWithin : List (List ℕ) → (Var → Type 0) → List Scope → Conjunct Expr → Type 0
  ConjunctWithin fields V made (holds q t) = TestWithin (OperandWithin V made) t
  ConjunctWithin fields V made (points q x fs) = OperandWithin V made x
      × FieldsWithin fields (OperandWithin V made) fs
  ConjunctWithin fields V made (segment q next x y) =
      IsFirstNamed fields next_name (Some next.0) × OperandWithin V made x × OperandWithin V made y
  ConjunctWithin fields V made (doubly q next back x b l y) =
      IsFirstNamed fields next_name (Some next.0) × IsFirstNamed fields back_name (Some back.0)
      × OperandWithin V made x × OperandWithin V made b × OperandWithin V made l × OperandWithin V made y
  ConjunctWithin fields V made (tree q left right x) =
      IsFirstNamed fields left_name (Some left.0) × IsFirstNamed fields right_name (Some right.0)
      × OperandWithin V made x
  ConjunctWithin fields V made (choose q t this that) =
      TestWithin (OperandWithin V made) t × LevelWithin fields V made this × LevelWithin fields V made that

-- the scopes of an annotation in text order, outer ones first, and after them those
abbrev mutual
  -- of a level: its own, and those of its conjuncts
  pub level_scopes : {E : Type 0} → Level E → List Scope → List Scope
  level_scopes (level here cs) rest = here ∷ conjuncts_scopes cs rest

  -- of conjuncts: those of each
  pub conjuncts_scopes : {E : Type 0} → Conjuncts E → List Scope → List Scope
  conjuncts_scopes none rest = rest
  conjuncts_scopes (also c cs) rest = conjunct_scopes c (conjuncts_scopes cs rest)

  -- of a conjunct: a choice has those of its branches, the others have none
  pub conjunct_scopes : {E : Type 0} → Conjunct E → List Scope → List Scope
  conjunct_scopes (holds q t) rest = rest
  conjunct_scopes (points q x fs) rest = rest
  conjunct_scopes (segment q next x y) rest = rest
  conjunct_scopes (doubly q next back x b l y) rest = rest
  conjunct_scopes (tree q left right x) rest = rest
  conjunct_scopes (choose q t this that) rest = level_scopes this (level_scopes that rest)

-- how deep levels are nested, the outermost counted
abbrev mutual
  -- a level is one deeper than its conjuncts
  pub level_depth : {E : Type 0} → Level E → ℕ
  level_depth (level here cs) = suc (conjuncts_depth cs)

  -- conjuncts are as deep as the deepest of them
  pub conjuncts_depth : {E : Type 0} → Conjuncts E → ℕ
  conjuncts_depth none = 0
  conjuncts_depth (also c cs) = max (conjunct_depth c) (conjuncts_depth cs)

  -- a choice is as deep as its deeper branch, and the others have no depth
  pub conjunct_depth : {E : Type 0} → Conjunct E → ℕ
  conjunct_depth (holds q t) = 0
  conjunct_depth (points q x fs) = 0
  conjunct_depth (segment q next x y) = 0
  conjunct_depth (doubly q next back x b l y) = 0
  conjunct_depth (tree q left right x) = 0
  conjunct_depth (choose q t this that) = max (level_depth this) (level_depth that)

-- an annotation is well-formed, with only those variables: no existential is made by two of its scopes
pub record AnnotationWithin (fields : List (List ℕ)) (V : Var → Type 0) (a : Level Expr) : Type 0 where
  pub within : LevelWithin fields V [] a
  pub disjoint : IsDistinct overlap (level_scopes a [])
  pub depth : level_depth a ≤ NESTING

-- an assertion is well-formed, with only those variables, and has a name for each existential that its scopes
-- make, and no more
pub record AssertionWithin (fields : List (List ℕ)) (V : Var → Type 0) (a : Assertion) : Type 0 where
  pub annotation : AnnotationWithin fields V a.level
  pub named : All (λ s. s.first + s.count ≤ length a.names) (level_scopes a.level [])
  pub names : length a.names ≡ sum_by (λ s. s.count) (level_scopes a.level [])

-- a procedure that is there, and has as many references and values as the call
abbrev pub HasCounts : Option Procedure → Call → Type 0
HasCounts None c = ⊥
HasCounts (Some g) c = (length c.references ≡ g.references) × (length c.values ≡ g.values)

-- a call in f's body is well-formed: it doesn't name the procedure that sets the resources up
pub record CallWithin (p : Program) (f : Procedure) (c : Call) : Type 0 where
  pub callee : HasCounts (slice_get p.procedures c.callee.0) c
  pub no_init : sets_up p c.callee ≡ false
  pub references : All (λ x. IsSettable p f x.var) c.references
  pub values : All (ExprWithin (IsInBody p f)) c.values

-- what commands of f's body may do
abbrev mutual
  -- a command sets and reads variables that it may, its fields, resources and callees are there, and what is
  -- inside it is well-formed
  pub CommandWithin : Program → Procedure → Command → Type 0
  CommandWithin p f (assign q x e) = IsSettable p f x.var × ExprWithin (IsInBody p f) e
  CommandWithin p f (look_up q x e field) = IsSettable p f x.var × ExprWithin (IsInBody p f) e
      × (field.0 < length p.fields)
  CommandWithin p f (mutate q e field d) = ExprWithin (IsInBody p f) e × (field.0 < length p.fields)
      × ExprWithin (IsInBody p f) d
  CommandWithin p f (new q x) = IsSettable p f x.var
  CommandWithin p f (dispose q e) = ExprWithin (IsInBody p f) e
  CommandWithin p f (if q t c d) = TestWithin (ExprWithin (IsInBody p f)) t × BlockWithin p f c
      × BlockWithin p f d
  CommandWithin p f (while q t a c) = TestWithin (ExprWithin (IsInBody p f)) t
      × AssertionWithin p.fields (IsInBody p f) a × BlockWithin p f c
  CommandWithin p f (call q c) = CallWithin p f c
  CommandWithin p f (fork q c d) = CallWithin p f c × CallWithin p f d
  CommandWithin p f (with q r t c) = (r.0 < length p.resources) × TestWithin (ExprWithin (IsInBody p f)) t
      × BlockWithin p f c

  -- each command of a block is well-formed
  pub BlockWithin : Program → Procedure → Block → Type 0
  BlockWithin p f done = Unit {0}
  BlockWithin p f (then c b) = CommandWithin p f c × BlockWithin p f b

-- how deep commands are nested
abbrev mutual
  -- a command is one deeper than what is inside it
  pub command_depth : Command → ℕ
  command_depth (assign q x e) = 1
  command_depth (look_up q x e field) = 1
  command_depth (mutate q e field d) = 1
  command_depth (new q x) = 1
  command_depth (dispose q e) = 1
  command_depth (if q t c d) = suc (max (block_depth c) (block_depth d))
  command_depth (while q t a c) = suc (block_depth c)
  command_depth (call q c) = 1
  command_depth (fork q c d) = 1
  command_depth (with q r t c) = suc (block_depth c)

  -- a block is as deep as the deepest of its commands
  pub block_depth : Block → ℕ
  block_depth done = 0
  block_depth (then c b) = max (command_depth c) (block_depth b)

-- a procedure is well-formed: the limit is on its parameters and declared locals, and the names after theirs
-- are those of primed locals, at most one for each value; the one that sets the resources up is bare
pub record ProcedureWithin (p : Program) (f : Procedure) : Type 0 where
  pub declared_count : f.references + f.values + f.locals ≤ OWN_VARIABLES
  pub declared : f.references + f.values + f.locals ≤ length f.names
  pub primed : length f.names ≤ f.references + f.values + f.locals + f.values
  pub pre : AssertionWithin p.fields (IsParameter p f) f.pre
  pub post : AssertionWithin p.fields (IsParameter p f) f.post
  pub body : BlockWithin p f f.body
  pub depth : block_depth f.body ≤ NESTING
  pub init : is_init f ≡ true → IsBare f

-- what every program keeps
pub record IsFormed (p : Program) : Type 0 where
  pub procedures : (k : ℕ) (f : Procedure) → slice_get p.procedures k ≡ Some f → ProcedureWithin p f
  pub resources : (k : ℕ) (r : Resource) → slice_get p.resources k ≡ Some r
      → AssertionWithin p.fields (IsOfResource k (length r.variables)) r.invariant
  pub procedure_count : length p.procedures ≤ PROCEDURES
  pub resource_count : length p.resources ≤ RESOURCES
  pub field_count : length p.fields ≤ FIELDS
  pub variables : sum_by (λ r. length r.variables) p.resources ≤ RESOURCE_VARIABLES
  -- at most one procedure sets the resources up
  pub one_init : (j k : ℕ) (f g : Procedure) → slice_get p.procedures j ≡ Some f
      → slice_get p.procedures k ≡ Some g → is_init f ≡ true → is_init g ≡ true → j ≡ k
