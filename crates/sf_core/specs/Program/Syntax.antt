-- Programs as the definitions see them: lists and trees in place of the code's vectors.
-- The language is that of Berdine, Calcagno and O'Hearn, "Smallfoot" (2005), in this project's own profile.
use Rattle.std.specs.Prelude.{ℕ, List}
use Rattle.sf_base.specs.declared.ids.FieldId.{FieldId}
use Rattle.sf_base.specs.declared.ids.ProcId.{ProcId}
use Rattle.sf_base.specs.declared.ids.ResId.{ResId}
use Rattle.sf_base.specs.declared.place.Place.{Place}
use Rattle.sf_core.specs.declared.assertion.Operand.{Operand}
use Rattle.sf_core.specs.declared.assertion.Scope.{Scope}
use Rattle.sf_core.specs.declared.assertion.Test.{Test}
use Rattle.sf_core.specs.declared.command.Expr.{Expr}
use Rattle.sf_core.specs.declared.command.Occurrence.{Occurrence}

mutual
  -- one conjunct over operands E: a test, a cell, a segment along a field, a doubly linked segment along a
  -- field and one that leads back, a tree along two fields, or a choice of two levels
  pub data Conjunct (E : Type 0) : Type 0 where
    holds : Place → Test (Operand E) → Conjunct E
    points : Place → Operand E → List (FieldId × Operand E) → Conjunct E
    segment : Place → FieldId → (from to : Operand E) → Conjunct E
    doubly : Place → (next back : FieldId) → (from before last to : Operand E) → Conjunct E
    tree : Place → (left right : FieldId) → Operand E → Conjunct E
    choose : Place → Test (Operand E) → (then otherwise : Level E) → Conjunct E

  -- the existentials that are made at one level, and its conjuncts
  pub data Level (E : Type 0) : Type 0 where
    level : Scope → Conjuncts E → Level E

  -- a list of conjuncts
  pub data Conjuncts (E : Type 0) : Type 0 where
    none : Conjuncts E
    also : Conjunct E → Conjuncts E → Conjuncts E

-- an assertion: the names of its existentials by number, and its outermost level
pub record Assertion : Type 0 where
  pub names : List (List ℕ)
  pub level : Level Expr

-- a call: the callee, the place of its name, the caller's variables that the references name, and the values
pub record Call : Type 0 where
  pub callee : ProcId
  pub place : Place
  pub references : List Occurrence
  pub values : List Expr

mutual
  -- the ten commands
  pub data Command : Type 0 where
    assign : Place → Occurrence → Expr → Command
    look_up : Place → Occurrence → Expr → FieldId → Command
    mutate : Place → Expr → FieldId → Expr → Command
    new : Place → Occurrence → Command
    dispose : Place → Expr → Command
    if : Place → Test Expr → (then otherwise : Block) → Command
    while : Place → Test Expr → (invariant : Assertion) → Block → Command
    call : Place → Call → Command
    fork : Place → (left right : Call) → Command
    with : Place → ResId → Test Expr → Block → Command

  -- a list of commands
  pub data Block : Type 0 where
    done : Block
    then : Command → Block → Block

-- a procedure: its own variables are its references, its values, its declared locals and its primed locals,
-- in this order
pub record Procedure : Type 0 where
  pub name : List ℕ
  pub place : Place
  pub names : List (List ℕ)
  pub references : ℕ
  pub values : ℕ
  pub locals : ℕ
  pub pre : Assertion
  pub post : Assertion
  pub body : Block
  pub end : Place

-- a resource: its variables and their invariant
pub record Resource : Type 0 where
  pub name : List ℕ
  pub variables : List (List ℕ)
  pub invariant : Assertion

-- a whole file: the names of its fields, its resources and its procedures, by number
pub record Program : Type 0 where
  pub fields : List (List ℕ)
  pub resources : List Resource
  pub procedures : List Procedure
