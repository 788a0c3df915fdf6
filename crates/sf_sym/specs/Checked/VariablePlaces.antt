-- The place of a variable among those that have a term.
-- An ordinary search of a list; no source.
use Rattle.std.specs.Prelude.{ℕ, suc, Bool, false, cond, Option, Some, None, List, [], ◌∷◌}
use Rattle.sf_base.specs.declared.ids.Var.{Var}
use Rattle.sf_base.specs.Variables.{same_var}
use Rattle.sf_sym.specs.declared.term.Term.{Term}
use Rattle.sf_sym.specs.Variables.{comes_before}

-- how many of the variables come before that one, up to the first that doesn't
abbrev pub place_of : Var → List (Var × Term) → ℕ
place_of x [] = 0
place_of x (v ∷ vs) = cond (same_var v.0 x) 0 (cond (comes_before x v.0) 0 (suc (place_of x vs)))

-- whether there is such a variable, and it is that one
abbrev pub is_var : Var → Option (Var × Term) → Bool
is_var x None = false
is_var x (Some v) = same_var v.0 x
