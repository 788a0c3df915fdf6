-- The relations on what occurs in commands, as tests and lists that compute.
-- Ordinary: each relation has the test that decides it, or the list of what it holds of.
use Rattle.std.specs.Prelude.{Bool, true, false, cond, ◌||◌, not, List, [], ◌∷◌, ◌++◌, map, Option, Some, None}
use Rattle.std.specs.List.{flat_map}
use Rattle.sf_base.specs.declared.ids.ProcId.{ProcId}
use Rattle.sf_base.specs.declared.ids.ResId.{ResId}
use Rattle.sf_base.specs.declared.ids.Var.{Var}
use Rattle.sf_base.specs.Variables.{same_var}
use Rattle.sf_core.specs.declared.command.Expr.{Expr}
use Rattle.sf_core.specs.declared.command.Expr.TheVariants.{Var as Variable, Nil, Int}
use Rattle.sf_core.specs.declared.command.Occurrence.{Occurrence}
use Rattle.sf_core.specs.Program.Heads.{Site, head_calls, head_sets}
use Rattle.sf_core.specs.Program.Syntax.{Command}
use Rattle.sf_calls.specs.Checked.Listed.{is_entered}

-- regions of those resources are none of the one that is left out
abbrev pub is_outside : Option ResId → List ResId → Bool
is_outside None entered = true
is_outside (Some r) entered = not (is_entered r entered)

-- the variable occurs in an expression, in references, in values
abbrev pub in_expr : Var → Expr → Bool
in_expr x (Variable y) = same_var y.var x
in_expr x Nil = false
in_expr x (Int i) = false

abbrev pub in_references : Var → List Occurrence → Bool
in_references x [] = false
in_references x (y ∷ ys) = same_var y.var x || in_references x ys

abbrev pub in_values : Var → List Expr → Bool
in_values x [] = false
in_values x (e ∷ es) = in_expr x e || in_values x es

-- the procedures that a command itself calls
abbrev pub callees_of : Command → List ProcId
callees_of c = map (λ d. d.callee) (head_calls c)

-- those that are called outside the regions of the resource that is left out, in text order
abbrev pub callees_in : Option ResId → List Site → List ProcId
callees_in but = flat_map (λ s. cond (is_outside but s.entered) (callees_of s.command) [])

-- the variables of those occurrences
abbrev pub variables_of : List Occurrence → List Var
variables_of = map (λ y. y.var)

-- the variables that a command itself sets, and those that references of its calls name
abbrev pub set_of : Command → List Var
set_of c = variables_of (head_sets c ++ flat_map (λ d. d.references) (head_calls c))

-- those at all of these sites, in text order
abbrev pub set_in : List Site → List Var
set_in = flat_map (λ s. set_of s.command)
