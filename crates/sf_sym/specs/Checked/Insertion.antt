-- How the code sets and removes in lists that are in order: at the first place that fits.
-- An ordinary insertion into a list in order; no source.
use Rattle.std.specs.Prelude.{◌==◌, cond, nat_lt, List, [], ◌∷◌}
use Rattle.sf_base.specs.declared.ids.FieldId.{FieldId}
use Rattle.sf_base.specs.declared.ids.Var.{Var}
use Rattle.sf_base.specs.Variables.{same_var}
use Rattle.sf_sym.specs.declared.term.Term.{Term}
use Rattle.sf_sym.specs.Variables.{comes_before}

-- a variable is set where it is, or before the first that comes after it
abbrev pub insert_var : Var → Term → List (Var × Term) → List (Var × Term)
insert_var x t [] = (x, t) ∷ []
insert_var x t (v ∷ vs) =
    cond (same_var v.0 x) ((x, t) ∷ vs)
    (cond (comes_before x v.0) ((x, t) ∷ v ∷ vs) (v ∷ insert_var x t vs))

-- each of the variables is, one after the other
abbrev pub insert_vars : List (Var × Term) → List (Var × Term) → List (Var × Term)
insert_vars [] vs = vs
insert_vars (x ∷ xs) vs = insert_vars xs (insert_var x.0 x.1 vs)

-- the first of that variable goes
abbrev pub delete_var : Var → List (Var × Term) → List (Var × Term)
delete_var x [] = []
delete_var x (v ∷ vs) = cond (same_var v.0 x) vs (v ∷ delete_var x vs)

-- a field is put where it is, or before the first that comes after it
abbrev pub insert_term : FieldId → Term → List (FieldId × Term) → List (FieldId × Term)
insert_term f u [] = (f, u) ∷ []
insert_term f u (g ∷ gs) =
    cond (g.0.0 == f.0) ((f, u) ∷ gs)
    (cond (nat_lt f.0 g.0.0) ((f, u) ∷ g ∷ gs) (g ∷ insert_term f u gs))
