-- The surface tree as the definitions see it: lists and trees in place of the code's vectors and boxes.
-- The language is that of Berdine, Calcagno and O'Hearn, "Smallfoot" (2005), in this project's own profile.
use Rattle.std.specs.Prelude.{Bool, List, Option}
use Rattle.sf_base.specs.declared.place.Place.{Place}
use Rattle.sf_ast.specs.declared.assertion.SurfaceField.{SurfaceField}
use Rattle.sf_ast.specs.declared.word.SurfaceExpr.{SurfaceExpr}
use Rattle.sf_ast.specs.declared.word.SurfaceOperand.{SurfaceOperand}
use Rattle.sf_ast.specs.declared.word.SurfaceTest.{SurfaceTest}
use Rattle.sf_ast.specs.declared.word.Word.{Word}

-- one name or more
pub record Names : Type 0 where
  pub first : Word
  pub more : List Word

mutual
  -- one conjunct: its tests and values, and the assertions in it; whether a test is in round brackets, whether `ls` is written `lseg`
  pub data Conjunct : Type 0 where
    emp : Place → Conjunct
    group : Assertion → Conjunct
    choose : Place → (round : Bool) → SurfaceTest SurfaceOperand → (then otherwise : Assertion) → Conjunct
    equal : (left right : SurfaceOperand) → Conjunct
    differ : (left right : SurfaceOperand) → Conjunct
    points : SurfaceOperand → List SurfaceField → Conjunct
    ls : Place → (long : Bool) → (from to : SurfaceOperand) → Conjunct
    list : Place → SurfaceOperand → Conjunct
    dll : Place → (from before last to : SurfaceOperand) → Conjunct
    tree : Place → SurfaceOperand → Conjunct

  -- one conjunct, or one and more after a `*`
  pub data Assertion : Type 0 where
    only : Conjunct → Assertion
    star : Conjunct → Assertion → Assertion

-- what occurs in square brackets, if anything does
pub data Note : Type 0 where
  blank : Note
  filled : Assertion → Note

-- what a call is given
pub data Arguments : Type 0 where
  values : List SurfaceExpr → Arguments
  both : List Word → List SurfaceExpr → Arguments

-- a call's name, and what it is given
pub record Call : Type 0 where
  pub name : Word
  pub arguments : Arguments

mutual
  -- the commands, each `if` without an `else` apart from those with one
  pub data Command : Type 0 where
    assign : Word → SurfaceExpr → Command
    look_up : Word → SurfaceExpr → Word → Command
    new : Word → Command
    mutate : SurfaceExpr → Word → SurfaceExpr → Command
    dispose : Place → (round : Bool) → SurfaceExpr → Command
    if_alone : Place → SurfaceTest SurfaceExpr → Command → Command
    if : Place → SurfaceTest SurfaceExpr → (then otherwise : Command) → Command
    while : Place → SurfaceTest SurfaceExpr → Option Note → Command → Command
    with : Place → Word → SurfaceTest SurfaceExpr → Command → Command
    call : Call → Command
    fork : (left right : Call) → Command
    block : (opens : Place) → Commands → (closes : Place) → Command

  -- a list of commands
  pub data Commands : Type 0 where
    done : Commands
    then : Command → Commands → Commands

-- a procedure's parameters
pub data Parameters : Type 0 where
  only_values : List Word → Parameters
  references_and_values : List Word → List Word → Parameters

-- a resource
pub record Resource : Type 0 where
  pub place : Place
  pub name : Word
  pub variables : List Word
  pub invariant : Note

-- a procedure
pub record Procedure : Type 0 where
  pub name : Word
  pub parameters : Parameters
  pub pre : Option Note
  pub opens : Place
  pub locals : List Names
  pub body : Commands
  pub closes : Place
  pub post : Option Note

-- one item of a file
pub data Item : Type 0 where
  fields : Names → Item
  resource : Resource → Item
  procedure : Procedure → Item
