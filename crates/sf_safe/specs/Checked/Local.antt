-- Local: what a frame owns as it sees it itself: the values of its variables, cells and tokens, without slots.
-- The states of concurrent separation logic: O'Hearn (2007), Brookes (2007).
use Rattle.std.specs.Prelude.{◌≡◌, ℕ, false, zero, suc, Option, Some, None, List, [], ◌∷◌, cond, get_or, length, map, ◌==◌, ◌+◌, ◌<◌, ◌≤◌}
use Rattle.std.specs.List.{slice_get}
use Rattle.std.specs.Option.{unwrap_or}
use Rattle.sf_base.specs.declared.ids.ProcId.{ProcId}
use Rattle.sf_base.specs.declared.ids.ResId.{ResId}
use Rattle.sf_base.specs.declared.ids.Var.{Var}
use Rattle.sf_base.specs.declared.ids.Var.TheVariants.{Own as OwnVar, Shared}
use Rattle.sf_base.specs.declared.value.Value.{Value}
use Rattle.sf_base.specs.declared.value.Value.TheVariants.{Nil as nil}
use Rattle.sf_base.specs.HeapStore.{Map, Splits, Cell, Heap}
use Rattle.sf_base.specs.Variables.{same_var}
use Rattle.sf_calls.specs.Assigned.{MayChange}
use Rattle.sf_calls.specs.Conditions.{Free}
use Rattle.sf_calls.specs.Outside.{IsAmong}
use Rattle.sf_core.specs.declared.assertion.Test.{Test}
use Rattle.sf_core.specs.declared.assertion.Test.TheVariants.{True, Equal, Differ}
use Rattle.sf_core.specs.declared.command.Expr.{Expr}
use Rattle.sf_core.specs.declared.command.Expr.TheVariants.{Var as Variable, Nil, Int}
use Rattle.sf_core.specs.declared.command.Occurrence.{Occurrence}
use Rattle.sf_core.specs.Assertions.Sat.{Sat, value}
use Rattle.sf_core.specs.Checked.GoodParts.{SatEach}
use Rattle.sf_core.specs.Machine.Good.{owed_by}
use Rattle.sf_core.specs.Machine.Step.{procedure_at}
use Rattle.sf_core.specs.Program.Formed.{IsOfResource}
use Rattle.sf_core.specs.Program.Syntax.{Call, Procedure, Program, Resource}
use Rattle.sf_core.specs.Program.Init.{is_init}
use Rattle.sf_safe.specs.Checked.Contract.{IsVariableOf, SetsVariableUp, tokens_of}

-- Local: the values of the variables that a frame has, its cells, and the tokens of the regions that it has entered
pub record Local : Type 0 where
  pub values : Map Var Value
  pub cells : Heap
  pub tokens : Map ResId (Unit {0})

-- the two parts are disjoint, and together they are the whole
pub record LocalParts (whole left right : Local) : Type 0 where
  pub values : Splits whole.values left.values right.values
  pub cells : Splits whole.cells left.cells right.cells
  pub tokens : Splits whole.tokens left.tokens right.tokens

-- the frame has the variable
abbrev pub HasVar : Local → Var → Type 0
HasVar l x = (v : Value) × (l.values x ≡ Some v)

-- it has the variable that an expression reads
abbrev pub HasIn : Local → Expr → Type 0
HasIn l (Variable x) = HasVar l x.var
HasIn l Nil = Unit {0}
HasIn l (Int i) = Unit {0}

-- it has those that a test reads
abbrev pub HasInTest : Local → Test Expr → Type 0
HasInTest l True = Unit {0}
HasInTest l (Equal x y) = HasIn l x × HasIn l y
HasInTest l (Differ x y) = HasIn l x × HasIn l y

-- it has those that value arguments read
abbrev pub HasInAll : Local → List Expr → Type 0
HasInAll l [] = Unit {0}
HasInAll l (e ∷ es) = HasIn l e × HasInAll l es

-- the value of a variable; one that it doesn't have counts as nil
abbrev pub value_in : Local → Var → Value
value_in l x = unwrap_or (l.values x) nil

-- the values of expressions
abbrev pub look : Local → Expr → Value
look l = value (value_in l)

-- the same with that value in that variable
abbrev pub put_variable : Var → Value → Local → Local
put_variable x v l = record l { values = λ y. cond (same_var y x) (Some v) (l.values y) }

-- the same with that cell at that location, or none
abbrev pub put_local : ℕ → Option Cell → Local → Local
put_local location c l = record l { cells = λ other. cond (other == location) c (l.cells other) }

-- it has just these variables
pub record HasJustVars (V : Var → Type 0) (l : Local) : Type 0 where
  pub each : (x : Var) → V x → HasVar l x
  pub only : (x : Var) → HasVar l x → V x

-- it has entered no region
abbrev pub IsOutside : Local → Type 0
IsOutside l = (r : ResId) → l.tokens r ≡ None

-- what a frame of g has when it begins and when it ends: just its variables, all tokens where it sets the resources up and
-- else none, and in its value parameters the values that they had at its start
pub record OwnsLocally (p : Program) (f : ProcId) (g : Procedure) (values : ℕ → Value) (l : Local) : Type 0 where
  pub variables : HasJustVars (IsVariableOf p f g) l
  pub tokens : (r : ResId) → l.tokens r ≡ tokens_of p g r
  pub parameters : (i : ℕ) → i < g.values → value_in l (OwnVar (g.references + i)) ≡ values i

-- Begins: nil in the locals, and in the variables of resources where it sets them up, and cells that satisfy the
-- precondition
pub record Begins (p : Program) (f : ProcId) (g : Procedure) (values : ℕ → Value) (l : Local) : Type 0 where
  pub owns : OwnsLocally p f g values l
  pub locals : (i : ℕ) → g.references + g.values ≤ i → i < length g.names → value_in l (OwnVar i) ≡ nil
  pub unset : (r : ResId) (i : ℕ) → SetsVariableUp p g r i → value_in l (Shared r i) ≡ nil
  pub pre : Sat g.pre.level (look l) (λ n. nil) l.cells

-- Ends: just the cells that satisfy what the return owes
pub record Ends (p : Program) (f : ProcId) (values : ℕ → Value) (l : Local) : Type 0 where
  pub procedure : Procedure
  pub there : procedure_at p f ≡ Some procedure
  pub owns : OwnsLocally p f procedure values l
  pub posts : SatEach (owed_by p procedure) (look l) l.cells

-- IsShare: what a free resource has: its variables, its token, and cells that satisfy its invariant
pub record IsShare (p : Program) (r : ResId) (l : Local) : Type 0 where
  pub resource : Resource
  pub there : slice_get p.resources r.0 ≡ Some resource
  pub variables : HasJustVars (IsOfResource r.0 (length resource.variables)) l
  pub tokens : l.tokens ≡ (λ q. cond (q.0 == r.0) (Some tt) None)
  pub invariant : Sat resource.invariant.level (look l) (λ n. nil) l.cells

-- the values of a call's value arguments, and nil after them
abbrev pub arguments_in : Local → Call → ℕ → Value
arguments_in l c i = get_or (map (look l) c.values) i nil

-- the value of the callee's own variable of that number: a reference has that of the caller's variable, the others
-- those of the arguments
abbrev pub own_value : (Var → Value) → List Occurrence → (ℕ → Value) → ℕ → Value
own_value caller [] arguments i = arguments i
own_value caller (x ∷ xs) arguments zero = caller x.var
own_value caller (x ∷ xs) arguments (suc i) = own_value caller xs arguments i

-- the values of the callee's variables, where the caller's have these
abbrev pub callee_value : (Var → Value) → Call → (ℕ → Value) → Var → Value
callee_value caller c arguments (OwnVar i) = own_value caller c.references arguments i
callee_value caller c arguments (Shared r i) = caller (Shared r i)

-- the call fits its callee: as many references and values, and the references are different variables, none of
-- which is free in the callee; and the callee doesn't set the resources up
pub record Fits (p : Program) (c : Call) (g : Procedure) : Type 0 where
  pub references : length c.references ≡ g.references
  pub values : length c.values ≡ g.values
  pub different : (i j : ℕ) (x y : Occurrence) → slice_get c.references i ≡ Some x
      → slice_get c.references j ≡ Some y → x.var ≡ y.var → i ≡ j
  pub not_free : (x : Var) → IsAmong x c.references → Free p c.callee x → ⊥
  pub no_init : is_init g ≡ false

-- what a call lends its callee: just the references and the variables that are free in it, no token, and cells that
-- satisfy the precondition
pub record Lends (p : Program) (c : Call) (g : Procedure) (arguments : ℕ → Value) (l : Local) : Type 0 where
  pub variables : HasJustVars (MayChange p c) l
  pub outside : IsOutside l
  pub pre : Sat g.pre.level (value (callee_value (value_in l) c arguments)) (λ n. nil) l.cells

-- what comes back from it: the same variables, no token, and cells that satisfy the postcondition
pub record ComesBack (p : Program) (c : Call) (g : Procedure) (arguments : ℕ → Value) (l : Local) : Type 0 where
  pub variables : HasJustVars (MayChange p c) l
  pub outside : IsOutside l
  pub post : Sat g.post.level (value (callee_value (value_in l) c arguments)) (λ n. nil) l.cells
