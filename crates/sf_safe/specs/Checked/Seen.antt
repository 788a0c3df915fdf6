-- What is seen in a part is what is seen in the whole, as far as what is read is owned.
-- Names: `seen-WHAT`.
use Rattle.std.specs.Prelude.{◌≡◌, ◌≢◌, ℕ, List, [], ◌∷◌, get_or, map}
use Rattle.std.specs.Option.{unwrap_or}
use Rattle.std.proofs.Common.{sym, ap, ap₂, ◌∙◌, refl}
use Rattle.std.proofs.lemmas.Option.{same_Some}
use Rattle.sf_base.specs.declared.ids.Var.{Var}
use Rattle.sf_base.specs.declared.value.Value.TheVariants.{Nil as nil, Loc as loc}
use Rattle.sf_base.specs.HeapStore.{Cell, Slot}
use Rattle.sf_base.proofs.MapSplits.{splits-has_left}
use Rattle.sf_core.specs.declared.assertion.Test.{Test}
use Rattle.sf_core.specs.declared.assertion.Test.TheVariants.{True, Equal, Differ}
use Rattle.sf_core.specs.declared.command.Expr.{Expr}
use Rattle.sf_core.specs.declared.command.Expr.TheVariants.{Var as Variable, Nil, Int}
use Rattle.sf_core.specs.Assertions.Sat.{IsTrueOf}
use Rattle.sf_core.specs.Machine.Config.{evaluate}
use Rattle.sf_core.specs.Machine.Step.{arguments, Finds}
use Rattle.sf_core.specs.Program.Syntax.{Call}
use Rattle.sf_safe.specs.Checked.Own.{Own, Parts, HasAll, HasExpr, HasTest}

module _ (slots : Var → Slot) (w u r : Own) (p : Parts w u r) where
  -- an expression has one value
  pub seen-value : (e : Expr) → HasExpr u slots e → evaluate slots w.slots e ≡ evaluate slots u.slots e
  seen-value (Variable x) h =
      ap (λ z. unwrap_or z nil) (splits-has_left (slots x.var) h.0 p.slots h.1 ∙ sym h.1)
  seen-value Nil h = refl
  seen-value (Int i) h = refl

  -- a test means one thing
  pub seen-test : (test : Test Expr) → HasTest u slots test
      → IsTrueOf (evaluate slots w.slots) test ≡ IsTrueOf (evaluate slots u.slots) test
  seen-test True h = refl
  seen-test (Equal x y) h = ap₂ (λ a b. a ≡ b) (seen-value x h.0) (seen-value y h.1)
  seen-test (Differ x y) h = ap₂ (λ a b. a ≢ b) (seen-value x h.0) (seen-value y h.1)

  seen-values : (es : List Expr) → HasAll u slots es
      → map (evaluate slots w.slots) es ≡ map (evaluate slots u.slots) es
  seen-values [] h = refl
  seen-values (e ∷ es) h = ap₂ (λ a b. a ∷ b) (seen-value e h.0) (seen-values es h.1)

  -- value arguments have one value each
  pub seen-arguments : (c : Call) → HasAll u slots c.values
      → arguments slots w.slots c ≡ arguments slots u.slots c
  seen-arguments c h = ap (λ vs. λ i. get_or vs i nil) (seen-values c.values h)

  loc-same : (a b : ℕ) → loc a ≡ loc b → a ≡ b
  loc-same a b e = cc

  -- what a command finds in the whole is what it finds in the part
  pub seen-cell : (e : Expr) (location other : ℕ) (here also : Cell) → HasExpr u slots e
      → Finds (evaluate slots w.slots) w.cells e location here
      → Finds (evaluate slots u.slots) u.cells e other also → (other ≡ location) × (also ≡ here)
  seen-cell e location other here also h i j =
      let same : other ≡ location = loc-same other location (sym j.is ∙ sym (seen-value e h) ∙ i.is) in (
        same,
        same_Some also here
            (sym (splits-has_left other also p.cells j.there) ∙ ap w.cells same ∙ i.there),
      )
