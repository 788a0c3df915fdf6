-- The values of expressions that a goal knows, and variables that get others.
-- Names: `listed-LAW` of a variable that has a term, `known-LAW` of an expression, `set-LAW` of a variable that is set,
-- `before-LAW` of the order of variables.
use Rattle.std.specs.List.{AllByRecursion}
use Rattle.std.specs.Option.{unwrap_or}
use Rattle.std.specs.Prelude.{is_some, ℤ}
use Rattle.std.proofs.Common.{◌≡◌, ℕ, Bool, true, false, ◌||◌, cond, Option, Some, None, List, [], ◌∷◌, refl, sym, ap, ◌∙◌}
use Rattle.std.proofs.lemmas.Option.{same_Some}
use Rattle.sf_base.proofs.Variables.{same_var-decides}
use Rattle.sf_base.specs.declared.ids.Var.{Var}
use Rattle.sf_base.specs.declared.value.Value.{Value}
use Rattle.sf_base.specs.declared.value.Value.TheVariants.{Nil as nil}
use Rattle.sf_base.specs.Variables.{same_var}
use Rattle.sf_core.specs.declared.command.Expr.{Expr}
use Rattle.sf_core.specs.declared.command.Expr.TheVariants.{Var as Variable, Nil as ENil, Int as EInt}
use Rattle.sf_sym.specs.Below.{AllPaired}
use Rattle.sf_sym.specs.Checked.Lemmas.Updates.{all-updated, all-updated_by, before-other, flipped, variables}
use Rattle.sf_sym.specs.declared.term.Term.{Term}
use Rattle.sf_sym.specs.declared.term.Term.TheVariants.{Nil, Int}
use Rattle.sf_sym.specs.Holds.{term_value, Agrees}
use Rattle.sf_sym.specs.Ready.{HasValue, IsIn, is_listed, value_at, with_variable}
use Rattle.sf_sym.specs.State.{term, term_at}
use Rattle.sf_sym.specs.Variables.{comes_before, set_var}

module _ (w : ℕ → Value) (e : Var → Option Value) where
  -- a variable with a value and a term has the term's value
  pub listed-value : (vars : List (Var × Term)) (x : Var) (v : Value) → AllByRecursion (Agrees w e) vars
      → e x ≡ Some v → is_listed vars x ≡ true → term_value w (term_at vars x) ≡ v
  listed-value [] x v a i l = absurd (cc)
  listed-value (y ∷ ys) x v a i l = go (same_var y.0 x) refl l (λ k. listed-value ys x v a.1 i k)
    where
      go : (b : Bool) → same_var y.0 x ≡ b → b || is_listed ys x ≡ true
          → (is_listed ys x ≡ true → term_value w (term_at ys x) ≡ v)
          → term_value w (cond b y.1 (term_at ys x)) ≡ v
      go true c k r = sym (a.0 v (ap e ((same_var-decides y.0 x).0 c) ∙ i))
      go false c k r = r k

  -- an expression whose variable has a term and a value has its term's value
  pub known-value : (vars : List (Var × Term)) → AllByRecursion (Agrees w e) vars → (x : Expr)
      → IsIn (is_listed vars) x → HasValue e x → term_value w (term vars x) ≡ value_at e x
  known-value vars a (Variable x) l k = go (e x.var) refl k
    where
      go : (o : Option Value) → e x.var ≡ o → is_some o ≡ true
          → term_value w (term_at vars x.var) ≡ unwrap_or (e x.var) nil
      go None i s = absurd (cc)
      go (Some v) i s = listed-value vars x.var v a i l ∙ ap (λ o. unwrap_or o nil) (sym i)
  known-value vars a ENil l k = refl
  known-value vars a (EInt i) l k = refl

-- the term of an expression has a property that nil, the integers and the variables' terms have
pub term-all : (P : Term → Type 0) → P Nil → ((i : ℤ) → P (Int i)) → (vars : List (Var × Term)) → AllPaired P vars
    → (x : Expr) → P (term vars x)
term-all P n i vars a (Variable x) = at vars a
  where
    at : (vars : List (Var × Term)) → AllPaired P vars → P (term_at vars x.var)
    at [] a = n
    at (v ∷ vs) a = go (same_var v.0 x.var) (at vs a.1)
      where
        go : (b : Bool) → P (term_at vs x.var) → P (cond b v.1 (term_at vs x.var))
        go true r = a.0
        go false r = r
term-all P n i vars a ENil = n
term-all P n i vars a (EInt j) = i j

module _ (w : ℕ → Value) (e : Var → Option Value) (x : Var) (u : Value) where
  -- the value of another variable stays
  other-agrees : (y : Var × Term) → same_var y.0 x ≡ false → Agrees w e y → Agrees w (with_variable x u e) y
  other-agrees y n a v i = a v (sym (ap (λ b. cond b (Some u) (e y.0)) n) ∙ i)

  -- it has the value of its term
  here-agrees : (t : Term) → u ≡ term_value w t → Agrees w (with_variable x u e) (x, t)
  here-agrees t is v i =
      same_Some v u (sym i ∙ ap (λ b. cond b (Some u) (e x)) ((same_var-decides x x).1 refl)) ∙ is

  -- where a variable is set, all have their terms' values
  pub set-agrees : (vs : List (Var × Term)) (t : Term) → u ≡ term_value w t
      → AllByRecursion (Agrees w e) vs
      → AllByRecursion (Agrees w (with_variable x u e)) (set_var x t vs)
  set-agrees vs t is a =
      all-updated_by (Agrees w e) (Agrees w (with_variable x u e)) (λ v. comes_before v.0 x)
      (λ v. comes_before x v.0)
      (λ y b c. other-agrees y
      (flipped variables x y.0 (before-other y.0 x b)) c)
      (λ y b c. other-agrees y (before-other x y.0 b) c) (x, t) vs (here-agrees t is) a

-- a variable's term that is set has a property that all have
pub set-all : (P : Term → Type 0) (x : Var) (t : Term) (vs : List (Var × Term)) → P t → AllPaired P vs
    → AllPaired P (set_var x t vs)
set-all P x t vs p a =
    all-updated (λ (v : Var × Term). P v.1) (λ v. comes_before v.0 x) (λ v. comes_before x v.0) (x, t)
    vs p a
