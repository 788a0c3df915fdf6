-- What the rules of commands rest on: which variables a command reads, which of them a goal and a store know, and that a
-- goal's lists are in order.
-- Berdine, Calcagno, O'Hearn, "Symbolic Execution with Separation Logic" (2005), section 4.
use Rattle.std.specs.Prelude.{◌≡◌, Bool, true, false, ◌||◌, cond, Option, Some, List, [], ◌∷◌, is_some}
use Rattle.std.specs.List.{AllByRecursion}
use Rattle.std.specs.Option.{unwrap_or}
use Rattle.sf_base.specs.declared.ids.Var.{Var}
use Rattle.sf_base.specs.declared.value.Value.{Value}
use Rattle.sf_base.specs.declared.value.Value.TheVariants.{Nil as nil}
use Rattle.sf_base.specs.Variables.{same_var}
use Rattle.sf_core.specs.Assertions.Sat.{value}
use Rattle.sf_core.specs.declared.assertion.Test.{Test}
use Rattle.sf_core.specs.declared.assertion.Test.TheVariants.{True, Equal, Differ}
use Rattle.sf_core.specs.declared.command.Expr.{Expr}
use Rattle.sf_core.specs.declared.command.Expr.TheVariants.{Var as Variable, Nil as ENil, Int as EInt}
use Rattle.sf_core.specs.Program.Syntax.{Command, assign, look_up, mutate, new, dispose, if, while, call, fork, with}
use Rattle.sf_sym.specs.declared.atom.Atom.{Atom}
use Rattle.sf_sym.specs.declared.atom.Atom.TheVariants.{Points, Ls, Tree, Dll}
use Rattle.sf_sym.specs.declared.term.Term.{Term}
use Rattle.sf_sym.specs.Fields.{AreOrdered}

-- whether a variable has a term
abbrev pub is_listed : List (Var × Term) → Var → Bool
is_listed [] x = false
is_listed (v ∷ vs) x = same_var v.0 x || is_listed vs x

-- the value of an expression; a variable without a value counts as nil
abbrev pub value_at : (Var → Option Value) → Expr → Value
value_at e = value (λ x. unwrap_or (e x) nil)

-- the variables in which that one has that value
abbrev pub with_variable : Var → Value → (Var → Option Value) → Var → Option Value
with_variable x v e = λ y. cond (same_var y x) (Some v) (e y)

-- the variable of the expression, if it is one, is among those
abbrev pub IsIn : (Var → Bool) → Expr → Type 0
IsIn among (Variable x) = among x.var ≡ true
IsIn among ENil = Unit {0}
IsIn among (EInt i) = Unit {0}

-- so are those of both sides of the test
abbrev pub IsTestIn : (Var → Bool) → Test Expr → Type 0
IsTestIn among True = Unit {0}
IsTestIn among (Equal x y) = IsIn among x × IsIn among y
IsTestIn among (Differ x y) = IsIn among x × IsIn among y

-- so are those that the command reads, apart from those inside it; the condition of a region is inside it
abbrev pub ReadsIn : (Var → Bool) → Command → Type 0
ReadsIn among (assign p x e) = IsIn among e
ReadsIn among (look_up p x e field) = IsIn among e
ReadsIn among (mutate p e field v) = IsIn among e × IsIn among v
ReadsIn among (new p x) = Unit {0}
ReadsIn among (dispose p e) = IsIn among e
ReadsIn among (if p test this that) = IsTestIn among test
ReadsIn among (while p test invariant body) = IsTestIn among test
ReadsIn among (call p c) = AllByRecursion (IsIn among) c.values
ReadsIn among (fork p c d) = AllByRecursion (IsIn among) c.values × AllByRecursion (IsIn among) d.values
ReadsIn among (with p r test body) = Unit {0}

-- the store has a value for what the expression reads
abbrev pub HasValue : (Var → Option Value) → Expr → Type 0
HasValue e x = IsIn (λ y. is_some (e y)) x

-- and for what both sides of the test read
abbrev pub HasTestValues : (Var → Option Value) → Test Expr → Type 0
HasTestValues e test = IsTestIn (λ y. is_some (e y)) test

-- a cell's fields are in order
abbrev pub HasOrder : Atom → Type 0
HasOrder (Points root fields) = AreOrdered fields
HasOrder (Ls u v) = Unit {0}
HasOrder (Tree u) = Unit {0}
HasOrder (Dll v p l u) = Unit {0}
