-- How variables get terms in a state and lose them: they are kept in order, own ones before those of resources.
-- Berdine, Calcagno, O'Hearn, "Symbolic Execution with Separation Logic" (2005), section 4.
use Rattle.std.specs.Prelude.{ℕ, suc, ◌+◌, ◌==◌, Bool, true, false, not, ◌&&◌, ◌||◌, IsTrue, nat_lt, List, [], ◌∷◌, ◌++◌, length}
use Rattle.std.specs.List.{AllByRecursion, filter}
use Rattle.sf_base.specs.declared.ids.Var.{Var}
use Rattle.sf_base.specs.declared.ids.Var.TheVariants.{Own, Shared}
use Rattle.sf_base.specs.Variables.{same_var}
use Rattle.sf_sym.specs.declared.term.Term.{Term}
use Rattle.sf_sym.specs.declared.term.Term.TheVariants.{Sym}
use Rattle.sf_sym.specs.State.{State}

-- own variables come by number, and then those of resources by resource and number
abbrev pub comes_before : Var → Var → Bool
comes_before (Own i) (Own j) = nat_lt i j
comes_before (Own i) (Shared r j) = true
comes_before (Shared q i) (Own j) = false
comes_before (Shared q i) (Shared r j) = nat_lt q.0 r.0 || ((q.0 == r.0) && nat_lt i j)

-- the variable comes before each of them
abbrev pub IsBeforeAll : Var → List (Var × Term) → Type 0
IsBeforeAll x vs = AllByRecursion (λ (v : Var × Term). IsTrue (comes_before x v.0)) vs

-- the variables are in order, each once
abbrev pub AreInOrder : List (Var × Term) → Type 0
AreInOrder [] = Unit {0}
AreInOrder (v ∷ vs) = IsBeforeAll v.0 vs × AreInOrder vs

-- the variable has that term from now on: the variables before it, it, and those after it
abbrev pub set_var : Var → Term → List (Var × Term) → List (Var × Term)
set_var x t vs =
    filter (λ v. comes_before v.0 x) vs ++ ((x, t) ∷ filter (λ v. comes_before x v.0) vs)

-- each of the variables has its term from now on, one after the other
abbrev pub set_vars : List (Var × Term) → List (Var × Term) → List (Var × Term)
set_vars [] vs = vs
set_vars (x ∷ xs) vs = set_vars xs (set_var x.0 x.1 vs)

-- the variable has no term any more: all others are left
abbrev pub remove_var : Var → List (Var × Term) → List (Var × Term)
remove_var x vs = filter (λ v. not (same_var v.0 x)) vs

-- none of the variables has a term any more
abbrev pub remove_vars : List Var → List (Var × Term) → List (Var × Term)
remove_vars [] vs = vs
remove_vars (x ∷ xs) vs = remove_vars xs (remove_var x vs)

-- a fresh symbol for each of the variables, in their order
abbrev pub fresh_for : (from : ℕ) → List Var → List (Var × Term)
fresh_for n [] = []
fresh_for n (x ∷ xs) = (x, Sym n) ∷ fresh_for (suc n) xs

-- the state in which each of the variables has a fresh symbol
abbrev pub with_fresh : List Var → State → State
with_fresh xs s = record s {
  vars = set_vars (fresh_for s.next_sym xs) s.vars;
  next_sym = s.next_sym + length xs;
}
