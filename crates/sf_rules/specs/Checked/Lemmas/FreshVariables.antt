-- Variables that get fresh symbols, and those that are set and removed; and the terms of a callee's variables.
-- Names: `fresh-LAW` of fresh symbols, `variables-length`, `CHANGE-below` of variables whose terms are below a number.
use Rattle.std.specs.List.{AllByRecursion, filter}
use Rattle.std.proofs.Common.{◌≡◌, ℕ, zero, suc, ◌+◌, ◌<◌, ◌≤◌, Bool, true, false, not, cond, List, [], ◌∷◌, length, map, refl, ap, arith}
use Rattle.std.proofs.lemmas.List.Sums.{count_by-le-length, length-filter}
use Rattle.sf_base.specs.declared.ids.ResId.{ResId}
use Rattle.sf_base.specs.declared.ids.Var.{Var}
use Rattle.sf_base.specs.declared.ids.Var.TheVariants.{Own, Shared}
use Rattle.sf_base.specs.Variables.{same_var}
use Rattle.sf_core.specs.declared.command.Expr.{Expr}
use Rattle.sf_core.specs.declared.command.Expr.TheVariants.{Var as Variable, Nil as ENil, Int as EInt}
use Rattle.sf_core.specs.declared.command.Occurrence.{Occurrence}
use Rattle.sf_core.specs.Program.Syntax.{Call}
use Rattle.sf_rules.specs.declared.few.TheConstants.{TOO_MANY}
use Rattle.sf_rules.specs.First.{nil_for}
use Rattle.sf_rules.specs.Callee.{callee_term, own_term, term_after, term_before, term_by}
use Rattle.sf_rules.specs.Resources.{variables_from}
use Rattle.sf_sym.specs.Below.{AllPaired, IsBelow}
use Rattle.sf_sym.specs.declared.term.Term.{Term}
use Rattle.sf_sym.specs.Checked.Lemmas.Below.{below-symbol}
use Rattle.sf_sym.specs.Checked.Lemmas.KnownValues.{set-all, term-all}
use Rattle.sf_sym.specs.Checked.Lemmas.Updates.{all-kept}
use Rattle.sf_sym.specs.State.{State, term, term_at}
use Rattle.sf_sym.specs.Variables.{fresh_for, remove_var, remove_vars, set_var, set_vars}

-- HOW MANY
pub fresh-length : (n : ℕ) (xs : List Var) → length (fresh_for n xs) ≡ length xs
fresh-length n [] = refl
fresh-length n (x ∷ xs) = ap suc (fresh-length (suc n) xs)

pub variables-length : (r : ResId) (i : ℕ) (names : List (List ℕ)) → length (variables_from r i names) ≡ length names
variables-length r i [] = refl
variables-length r i (x ∷ xs) = ap suc (variables-length r (suc i) xs)

pub few-filtered : (test : Var → Bool) (xs : List Var) → length xs < TOO_MANY → length (filter test xs) < TOO_MANY
few-filtered test xs l = omega (arith, l, length-filter test xs, count_by-le-length test xs)

-- FRESH SYMBOLS
pub fresh-below : (n : ℕ) (xs : List Var) (most : ℕ) → n + length xs ≤ most
    → AllPaired (IsBelow most) (fresh_for n xs)
fresh-below n [] most l = tt
fresh-below n (x ∷ xs) most l =
    (below-symbol most n (omega (arith, l)), fresh-below (suc n) xs most (omega (arith, l)))

-- NIL
pub nil_for-below : (n : ℕ) (xs : List Var) → AllPaired (IsBelow n) (nil_for xs)
nil_for-below n [] = tt
nil_for-below n (x ∷ xs) = (refl, nil_for-below n xs)

-- the term of an expression is below
pub term-below : (n : ℕ) (vars : List (Var × Term)) → AllPaired (IsBelow n) vars → (e : Expr) → IsBelow n (term vars e)
term-below n vars b e = term-all (IsBelow n) refl (λ i. refl) vars b e

module _ (n : ℕ) where
  -- VARIABLES THAT ARE SET, AND REMOVED
  pub set_all-below : (set vs : List (Var × Term)) → AllPaired (IsBelow n) set → AllPaired (IsBelow n) vs
      → AllPaired (IsBelow n) (set_vars set vs)
  set_all-below [] vs a b = b
  set_all-below (x ∷ xs) vs a b =
      set_all-below xs (set_var x.0 x.1 vs) a.1 (set-all (IsBelow n) x.0 x.1 vs a.0 b)

  remove-below : (x : Var) (vs : List (Var × Term)) → AllPaired (IsBelow n) vs
      → AllPaired (IsBelow n) (remove_var x vs)
  remove-below x vs b =
      all-kept (λ (v : Var × Term). IsBelow n v.1) (λ v. not (same_var v.0 x)) vs b

  pub removed-below : (xs : List Var) (vs : List (Var × Term)) → AllPaired (IsBelow n) vs
      → AllPaired (IsBelow n) (remove_vars xs vs)
  removed-below [] vs b = b
  removed-below (x ∷ xs) vs b = removed-below xs (remove_var x vs) (remove-below x vs b)

  -- THE TERMS OF A CALLEE'S VARIABLES
  variable-below : (vs : List (Var × Term)) (x : Var) → AllPaired (IsBelow n) vs → IsBelow n (term_at vs x)
  variable-below [] x b = refl
  variable-below (v ∷ vs) x b = go (same_var v.0 x) (variable-below vs x b.1)
    where
      go : (c : Bool) → IsBelow n (term_at vs x) → IsBelow n (cond c v.1 (term_at vs x))
      go true r = b.0
      go false r = r

  values-below : (vs : List (Var × Term)) (es : List Expr) → AllPaired (IsBelow n) vs
      → AllByRecursion (IsBelow n) (map (term vs) es)
  values-below vs [] b = tt
  values-below vs (e ∷ es) b = (term-below n vs b e, values-below vs es b)

  own-below : (caller : Var → Term) (xs : List Occurrence) (ts : List Term) (i : ℕ)
      → ((x : Var) → IsBelow n (caller x)) → AllByRecursion (IsBelow n) ts → IsBelow n (own_term caller xs ts i)
  own-below caller [] [] i b c = refl
  own-below caller [] (t ∷ ts) zero b c = c.0
  own-below caller [] (t ∷ ts) (suc i) b c = own-below caller [] ts i b c.1
  own-below caller (x ∷ xs) ts zero b c = b x.var
  own-below caller (x ∷ xs) ts (suc i) b c = own-below caller xs ts i b c

  callee-below : (caller : Var → Term) (c : Call) (ts : List Term) → ((x : Var) → IsBelow n (caller x))
      → AllByRecursion (IsBelow n) ts → (e : Expr) → IsBelow n (term_by (callee_term caller c ts) e)
  callee-below caller c ts b a (Variable x) = go x.var
    where
      go : (x : Var) → IsBelow n (callee_term caller c ts x)
      go (Own i) = own-below caller c.references ts i b a
      go (Shared r i) = b (Shared r i)
  callee-below caller c ts b a ENil = refl
  callee-below caller c ts b a (EInt i) = refl

  pub before-below : (s : State) (c : Call) → AllPaired (IsBelow n) s.vars → (e : Expr)
      → IsBelow n (term_before s c e)
  before-below s c b = callee-below (term_at s.vars) c (map (term s.vars) c.values)
      (λ x. variable-below s.vars x b) (values-below s.vars c.values b)

  pub after-below : (s : State) (set : List (Var × Term)) (c : Call) → AllPaired (IsBelow n) s.vars
      → AllPaired (IsBelow n) set → (e : Expr) → IsBelow n (term_after s set c e)
  after-below s set c b a = callee-below (term_at (set_vars set s.vars)) c (map (term s.vars) c.values)
      (λ x. variable-below (set_vars set s.vars) x (set_all-below set s.vars a b)) (values-below s.vars c.values b)
