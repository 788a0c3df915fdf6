-- A goal that suits a frame: what its form says of what is to do, and which variables have values.
-- Names: `body-LAW` of commands up to an end, `domain-LAW` of what a frame has, `value-LAW` of expressions and tests.
use Rattle.std.specs.Prelude.{is_some}
use Rattle.std.proofs.Common.{◌≡◌, ℕ, Bool, true, false, cond, Some, List, [], ◌∷◌, ◌++◌, refl, sym, ap, ◌∙◌}
use Rattle.sf_base.proofs.Variables.{same_var-decides}
use Rattle.sf_base.specs.declared.ids.Var.{Var}
use Rattle.sf_base.specs.declared.value.Value.{Value}
use Rattle.sf_base.specs.Variables.{same_var}
use Rattle.sf_core.specs.declared.assertion.Test.{Test}
use Rattle.sf_core.specs.declared.assertion.Test.TheVariants.{True, Equal, Differ}
use Rattle.sf_core.specs.declared.command.Expr.{Expr}
use Rattle.sf_core.specs.declared.command.Expr.TheVariants.{Var as Variable, Nil, Int}
use Rattle.sf_core.specs.Machine.Config.{command, items}
use Rattle.sf_core.specs.Program.Syntax.{Block, done, then, Program}
use Rattle.sf_rules.specs.Setting.{Setting}
use Rattle.sf_safe.specs.Checked.Local.{HasIn, HasInTest, HasVar, Local, put_variable}
use Rattle.sf_safe.specs.Checked.LocalSafe.{LocalSafe}
use Rattle.sf_sound.proofs.Keeping.{Kept, nothing_gone, nothing_lost, some-has}
use Rattle.sf_sound.specs.Checked.Claims.{Does, Owed, steps}
use Rattle.sf_sound.specs.Checked.Suits.{BlockSuits, Domain, HasDomain, Reads, ReadsTest, TodoSuits}
use Rattle.sf_sym.specs.Goal.{Item, run, add, take, gave, head, again, exit, return, end, to_run}
use Rattle.sf_sym.specs.Ready.{HasTestValues, HasValue}
use Rattle.sf_sym.specs.Shape.{IsBody}

-- THE FORM
-- what is done of commands up to an end is what the machine does of it
pub body-does : (p : Program) (n : ℕ) (w : ℕ → Value) (todo : List Item) (l : Local) → IsBody todo
    → Does p n w todo l → LocalSafe p n (Owed todo) (steps todo) l
body-does p n w [] l b d = absurd b
body-does p n w (run c ∷ rest) l b d = d
body-does p n w (exit q r ∷ rest) l b d = d
body-does p n w (again q invariant ∷ rest) l b d = d
body-does p n w (return q post ∷ rest) l b d = d
body-does p n w (add q given ∷ rest) l b d = absurd b
body-does p n w (take q want names ∷ rest) l b d = absurd b
body-does p n w (gave q set removed ∷ rest) l b d = absurd b
body-does p n w (head q test invariant body ∷ rest) l b d = absurd b
body-does p n w (end q ∷ rest) l b d = absurd b

pub steps-run : (b : Block) (rest : List Item) → steps (to_run b ++ rest) ≡ items b ++ steps rest
steps-run done rest = refl
steps-run (then c b) rest = ap (λ ss. command c ∷ ss) (steps-run b rest)

pub items-none : (b : Block) → items b ++ [] ≡ items b
items-none done = refl
items-none (then c b) = ap (λ ss. command c ∷ ss) (items-none b)

pub owed-run : (b : Block) (rest : List Item) → Owed (to_run b ++ rest) ≡ Owed rest
owed-run done rest = refl
owed-run (then c b) rest = owed-run b rest

pub suits-run : (d : Setting) (D : Domain) (b : Block) (rest : List Item) → BlockSuits d D b → TodoSuits d D rest
    → TodoSuits d D (to_run b ++ rest)
suits-run d D done rest s t = t
suits-run d D (then c b) rest s t = (s.0, suits-run d D b rest s.1 t)

-- WHAT A FRAME HAS
pub domain-has : (D : Domain) (l : Local) → HasDomain D l → (x : Var) → D.has x ≡ true → HasVar l x
domain-has D l h x e = some-has l x (h.variables x ∙ e)

-- a frame of which nothing is gone
pub domain-kept : (D : Domain) (A : Var → Type 0) (l m : Local) → HasDomain D l
    → Kept A nothing_gone nothing_lost l m → HasDomain D m
domain-kept D A l m h k = record {
  variables = λ x. k.domain x ∙ h.variables x;
  tokens = λ r. k.tokens r ∙ h.tokens r;
}

pub domain-put : (D : Domain) (l : Local) (x : Var) (v : Value) → D.has x ≡ true → HasDomain D l
    → HasDomain D (put_variable x v l)
domain-put D l x v e h = record { variables = λ y. go y (same_var y x) refl; tokens = h.tokens }
  where
    go : (y : Var) (b : Bool) → same_var y x ≡ b
        → is_some (cond (same_var y x) (Some v) (l.values y)) ≡ D.has y
    go y true i =
        ap (λ b. is_some (cond b (Some v) (l.values y))) i ∙ sym (ap D.has ((same_var-decides y x).0 i) ∙ e)
    go y false i = ap (λ b. is_some (cond b (Some v) (l.values y))) i ∙ h.variables y

pub domain-in : (D : Domain) (l : Local) → HasDomain D l → (e : Expr) → Reads D e → HasIn l e
domain-in D l h (Variable x) r = domain-has D l h x.var r
domain-in D l h Nil r = tt
domain-in D l h (Int i) r = tt

pub domain-test : (D : Domain) (l : Local) → HasDomain D l → (t : Test Expr) → ReadsTest D t → HasInTest l t
domain-test D l h True r = tt
domain-test D l h (Equal x y) r = (domain-in D l h x r.0, domain-in D l h y r.1)
domain-test D l h (Differ x y) r = (domain-in D l h x r.0, domain-in D l h y r.1)

-- WHAT HAS A VALUE
module _ (D : Domain) (l : Local) (h : HasDomain D l) where
  pub value-expr : (e : Expr) → Reads D e → HasValue l.values e
  value-expr (Variable x) r = h.variables x.var ∙ r
  value-expr Nil r = tt
  value-expr (Int i) r = tt

  pub value-test : (t : Test Expr) → ReadsTest D t → HasTestValues l.values t
  value-test True r = tt
  value-test (Equal x y) r = (value-expr x r.0, value-expr y r.1)
  value-test (Differ x y) r = (value-expr x r.0, value-expr y r.1)
