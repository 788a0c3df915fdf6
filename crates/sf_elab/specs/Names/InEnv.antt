-- What names stand for at a place of a file, and expressions there.
-- The scopes of this language: own variables hide those of resources.
use Rattle.std.specs.Prelude.{ℕ, Bool, not, if◌then◌else◌, List, [], ◌++◌, Option, Some, None, is_some, unwrap_or}
use Rattle.sf_base.specs.declared.ids.FieldId.{FieldId}
use Rattle.sf_base.specs.declared.ids.ResId.{ResId}
use Rattle.sf_base.specs.declared.ids.Var.{Var}
use Rattle.sf_base.specs.declared.ids.Var.TheVariants.{Own}
use Rattle.sf_base.specs.declared.place.Place.{Place}
use Rattle.sf_ast.specs.declared.word.SurfaceExpr.{SurfaceExpr}
use Rattle.sf_ast.specs.declared.word.SurfaceExpr.TheVariants as e
use Rattle.sf_ast.specs.declared.word.SurfaceTest.{SurfaceTest}
use Rattle.sf_ast.specs.declared.word.SurfaceTest.TheVariants as t
use Rattle.sf_ast.specs.declared.word.Word.{Word}
use Rattle.sf_core.specs.declared.assertion.Test.{Test}
use Rattle.sf_core.specs.declared.assertion.Test.TheVariants.{True, Equal, Differ}
use Rattle.sf_core.specs.declared.command.Expr.{Expr}
use Rattle.sf_core.specs.declared.command.Expr.TheVariants.{Var as Variable, Nil, Int}
use Rattle.sf_core.specs.declared.command.Occurrence.{Occurrence}
use Rattle.sf_elab.specs.declared.declared.Declared.{Declared}
use Rattle.sf_elab.specs.declared.declared.Header.{Header}
use Rattle.sf_elab.specs.declared.fault.Fault.{Fault}
use Rattle.sf_elab.specs.declared.fault.Fault.TheVariants.{Unknown, Foreign}
use Rattle.sf_elab.specs.declared.env.Env.{Env as CodeEnv}
use Rattle.sf_elab.specs.Files.Faults.{where_}
use Rattle.sf_elab.specs.Names.Table.{Table, find}
use Rattle.sf_elab.specs.Names.Texts.{text}

-- what is in sight: the file's names, and before them own variables: a procedure's, or in an invariant its resource's
pub record Env : Type 0 where
  pub bytes : List ℕ
  pub declared : Declared
  pub own : Table Var
  -- whether one reads an invariant, which mentions own variables alone
  pub in_invariant : Bool

-- that of the code
abbrev pub env_of : CodeEnv → Env
env_of s = record { bytes = s.bytes.now; declared = s.declared.now; own = s.own.now; in_invariant = s.in_invariant }

-- the first that is there
abbrev pub otherwise : {A : Type 0} → Option A → Option A → Option A
otherwise (Some a) b = Some a
otherwise None b = b

-- the variable of that name
abbrev pub variable : Env → Word → Option Var
variable s w = otherwise (find (text s.bytes w) s.own) (if s.in_invariant then None else find (text s.bytes w) s.declared.shared)

-- the variable where it is; some variable where there is none of that name
abbrev pub occurrence : Env → Word → Occurrence
occurrence s w = record { var = unwrap_or (variable s w) (Own 0); place = w.place }

-- what is wrong with the name
abbrev pub variable_faults : Env → Word → List Fault
variable_faults s w = where_ (not (is_some (variable s w))) (if s.in_invariant then Foreign w else Unknown w)

-- an expression
abbrev pub expr_of : Env → SurfaceExpr → Expr
expr_of s (e.Name w) = Variable (occurrence s w)
expr_of s (e.Nil p) = Nil
expr_of s (e.Null p) = Nil
expr_of s (e.Number n p) = Int n

-- what is wrong with it
abbrev pub expr_faults : Env → SurfaceExpr → List Fault
expr_faults s (e.Name w) = variable_faults s w
expr_faults s _ = []

-- where its first token is
abbrev pub expr_place : SurfaceExpr → Place
expr_place (e.Name w) = w.place
expr_place (e.Nil p) = p
expr_place (e.Null p) = p
expr_place (e.Number n p) = p

-- a test of what stands for its two sides
abbrev pub test_of : {E F : Type 0} → (E → F) → SurfaceTest E → Test F
test_of side (t.True p) = True
test_of side (t.Equal x y) = Equal (side x) (side y)
test_of side (t.Differ x y) = Differ (side x) (side y)

-- what is wrong with its two sides
abbrev pub test_faults : {E : Type 0} → (E → List Fault) → SurfaceTest E → List Fault
test_faults side (t.True p) = []
test_faults side (t.Equal x y) = side x ++ side y
test_faults side (t.Differ x y) = side x ++ side y

-- the field of that name; some field where there is none
abbrev pub field_of : Env → Word → FieldId
field_of s w = unwrap_or (find (text s.bytes w) s.declared.fields) (record { 0 = 0 })

-- what is wrong with the name
abbrev pub field_faults : Env → Word → List Fault
field_faults s w = where_ (not (is_some (find (text s.bytes w) s.declared.fields))) (Unknown w)

-- the resource of that name; some resource where there is none
abbrev pub resource_named : Env → Word → ResId
resource_named s w = unwrap_or (find (text s.bytes w) s.declared.resources) (record { 0 = 0 })

-- what is wrong with the name
abbrev pub resource_faults : Env → Word → List Fault
resource_faults s w = where_ (not (is_some (find (text s.bytes w) s.declared.resources))) (Unknown w)

-- no procedure
abbrev pub no_header : Header
no_header = record { id = record { 0 = 0 }; references = 0; values = 0 }

-- the procedure of that name; some header where there is none
abbrev pub header_named : Env → Word → Header
header_named s w = unwrap_or (find (text s.bytes w) s.declared.procedures) no_header
