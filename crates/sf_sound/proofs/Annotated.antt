-- Annotations in a goal: what the conjuncts of one say where its expressions' terms have the expressions' values, and
-- that they speak of symbols that there are.
-- Names: `usable-LAW` of an annotation that may be used.
use Rattle.std.specs.Prelude.{length, replicate}
use Rattle.std.proofs.Common.{◌≡◌, ℕ, Bool, true, false, cond, None, refl, sym, ap, ◌∙◌, subst}
use Rattle.std.proofs.lemmas.Option.{none-some}
use Rattle.sf_base.proofs.Lists.{replicate-default}
use Rattle.sf_base.specs.declared.ids.Var.{Var}
use Rattle.sf_base.specs.declared.value.Value.{Value}
use Rattle.sf_base.specs.declared.value.Value.TheVariants.{Nil as nil}
use Rattle.sf_base.specs.HeapStore.{Heap}
use Rattle.sf_core.proofs.Assertions.Sat.{sat-all_agree, sat-same_variables}
use Rattle.sf_core.specs.Assertions.Occurs.{OccursIn, OccursInAll}
use Rattle.sf_core.specs.Assertions.Sat.{Sat, SatAll, operand, value}
use Rattle.sf_core.specs.Assertions.Scopes.{is_made_by}
use Rattle.sf_core.specs.declared.assertion.Operand.{Operand}
use Rattle.sf_core.specs.declared.assertion.Operand.TheVariants.{Known, Exists}
use Rattle.sf_core.specs.declared.command.Expr.{Expr}
use Rattle.sf_core.specs.declared.command.Expr.TheVariants.{Var as Variable, Nil, Int}
use Rattle.sf_core.specs.Program.Formed.{ExprWithin}
use Rattle.sf_core.specs.Program.Syntax.{Assertion, Level, level}
use Rattle.sf_rules.specs.Setting.{Setting}
use Rattle.sf_rules.specs.Words.{pending_assertion}
use Rattle.sf_sound.specs.Checked.Suits.{IsPlain, IsUsable}
use Rattle.sf_sym.specs.declared.term.Term.{Term}
use Rattle.sf_sym.specs.Holds.{term_value, IsBound, PendingHolds}
use Rattle.sf_sym.specs.Checked.Lemmas.OtherTerms.{conjuncts-with}
use Rattle.sf_sym.specs.Mapped.{conjuncts_with}
use Rattle.sf_sym.specs.Pending.{conjuncts_of}

-- the terms of expressions that mention only such variables have the expressions' values
abbrev pub HaveValues : (Var → Type 0) → (ℕ → Value) → (Expr → Term) → (Var → Value) → Type 0
HaveValues V w to v = (e : Expr) → ExprWithin V e → term_value w (to e) ≡ value v e

-- no existential has a term yet
unbound : (w some : ℕ → Value) (k : ℕ) → IsBound w (replicate k None) some
unbound w some k n t e = absurd (none-some t (sym (replicate-default None k n) ∙ e))

module _ (w : ℕ → Value) (to : Expr → Term) (v : Var → Value) where
  level-shown : (a : Level Expr) (some : ℕ → Value) (heap : Heap) → ((n : ℕ) → OccursIn a (Exists n) → ⊥)
      → ((e : Expr) → OccursIn a (Known e) → term_value w (to e) ≡ value v e)
      → SatAll (conjuncts_with to (conjuncts_of a)) (term_value w) some heap → Sat a (value v) (λ n. nil) heap
  level-shown (level made cs) some heap closed same sat = (
    λ n. cond (is_made_by made n) (some n) nil,
    λ n o. ap (λ b. cond b (some n) nil) o,
    sat-all_agree cs (λ e. term_value w (to e)) (value v) some (λ n. cond (is_made_by made n) (some n) nil) heap go
        (subst (λ z. z) (conjuncts-with to (term_value w) cs some heap) sat),
  )
    where
      go : (x : Operand Expr) → OccursInAll cs x
          → operand (λ e. term_value w (to e)) some x ≡ operand (value v) (λ n. cond (is_made_by made n)
          (some n) nil) x
      go (Known e) o = same e (o, tt)
      go (Exists n) o = at (is_made_by made n) refl
        where
          at : (b : Bool) → is_made_by made n ≡ b → some n ≡ cond (is_made_by made n) (some n) nil
          at true i = sym (ap (λ b. cond b (some n) nil) i)
          at false i = absurd (closed n (o, i))

  level-assumed : (a : Level Expr) (heap : Heap) → ((e : Expr) → OccursIn a (Known e)
      → term_value w (to e) ≡ value v e)
      → Sat a (value v) (λ n. nil) heap
      → (some : ℕ → Value) × SatAll (conjuncts_with to (conjuncts_of a)) (term_value w) some heap
  level-assumed (level made cs) heap same (here, outside, sat) = (
    here,
    subst (λ z. z) (sym (conjuncts-with to (term_value w) cs here heap))
        (sat-all_agree cs (value v) (λ e. term_value w (to e)) here here heap go sat),
  )
    where
      go : (x : Operand Expr) → OccursInAll cs x
          → operand (value v) here x ≡ operand (λ e. term_value w (to e)) here x
      go (Known e) o = sym (same e (o, tt))
      go (Exists n) o = refl

module _ (d : Setting) (V : Var → Type 0) (a : Assertion) (u : IsPlain V a) where
  -- what occurs in it mentions only such variables
  plain-within : (e : Expr) → OccursIn a.level (Known e) → ExprWithin V e
  plain-within (Variable x) o = u.variables x.var (x, refl, o)
  plain-within Nil o = tt
  plain-within (Int i) o = tt

  -- its conjuncts, shown, satisfy it
  pub plain-shown : (w : ℕ → Value) (to : Expr → Term) (v : Var → Value) (heap : Heap) → HaveValues V w to v
      → PendingHolds w (pending_assertion to a) heap → Sat a.level (value v) (λ n. nil) heap
  plain-shown w to v heap same (some, bound, sat) =
      level-shown w to v a.level some heap u.closed (λ e o. same e (plain-within e o)) sat

  -- where it is satisfied, they hold
  pub plain-assumed : (w : ℕ → Value) (to : Expr → Term) (v : Var → Value) (heap : Heap) → HaveValues V w to v
      → Sat a.level (value v) (λ n. nil) heap → PendingHolds w (pending_assertion to a) heap
  plain-assumed w to v heap same sat =
      let m = level-assumed w to v a.level heap (λ e o. same e (plain-within e o)) sat in
      (m.0, unbound w m.0 (length a.names), m.1)

module _ (d : Setting) (V : Var → Type 0) (a : Assertion) (u : IsUsable d V a) where
  -- an annotation's conjuncts, in order and shown, satisfy it
  pub usable-shown : (w : ℕ → Value) (to : Expr → Term) (v : Var → Value) (heap : Heap) → HaveValues V w to v
      → PendingHolds w (pending_assertion to (d.ordered a)) heap → Sat a.level (value v) (λ n. nil) heap
  usable-shown w to v heap same h = (u.means v heap).1 (plain-shown d V (d.ordered a) u.plain w to v heap same h)

  -- where it is satisfied, they hold
  pub usable-assumed : (w : ℕ → Value) (to : Expr → Term) (v : Var → Value) (heap : Heap) → HaveValues V w to v
      → Sat a.level (value v) (λ n. nil) heap → PendingHolds w (pending_assertion to (d.ordered a)) heap
  usable-assumed w to v heap same sat =
      plain-assumed d V (d.ordered a) u.plain w to v heap same ((u.means v heap).0 sat)

  -- it is satisfied with other values of other variables
  pub usable-same : (v z : Var → Value) (heap : Heap) → ((x : Var) → V x → v x ≡ z x)
      → Sat a.level (value v) (λ n. nil) heap → Sat a.level (value z) (λ n. nil) heap
  usable-same v z heap same sat =
      (u.means z heap).1 (sat-same_variables (d.ordered a).level v z (λ n. nil) heap
      (λ x o. same x (u.plain.variables x o)) ((u.means v heap).0 sat))
