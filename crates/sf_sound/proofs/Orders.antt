-- Annotations in order: what occurs in one in order occurs in it, and annotations that are well formed and have an
-- order may be used.
-- Names: `PART-occurs` of what occurs, `usable-of`.
use Rattle.std.specs.Prelude.{◌⊎◌}
use Rattle.std.proofs.Common.{ℕ, Bool, false, sym, subst, inl, inr}
use Rattle.sf_base.specs.declared.ids.Var.{Var}
use Rattle.sf_base.specs.declared.value.Value.TheVariants.{Nil as nil}
use Rattle.sf_core.proofs.Assertions.Determined.{determined-precise}
use Rattle.sf_core.specs.Assertions.Determined.{known_after, known_inside}
use Rattle.sf_core.specs.Assertions.Occurs.{OccursIn, OccursInAll, OccursInOne, VarOccursIn}
use Rattle.sf_core.specs.Assertions.Sat.{value}
use Rattle.sf_core.specs.declared.assertion.Operand.{Operand}
use Rattle.sf_core.specs.Program.Formed.{AssertionWithin}
use Rattle.sf_core.specs.Program.Syntax.{Assertion, Conjunct, holds, points, segment, doubly, tree, choose, Conjuncts, none, also, Level, level}
use Rattle.sf_precise.specs.Checked.Laws.{OrderKeepsMeaning, OrderedIsDetermined}
use Rattle.sf_precise.specs.Order.{IsFirstReady, IsOrder, IsOrderFrom, IsOrderInside, IsOrderOf, IsOrderWithin}
use Rattle.sf_rules.specs.Setting.{Setting}
use Rattle.sf_sound.proofs.Plain.{plain-of}
use Rattle.sf_sound.specs.Checked.Suits.{IsUsable}

module _ {E : Type 0} (x : Operand E) where
  -- in the first that is ready, and in the others
  first-occurs : (known : ℕ → Bool) (cs : Conjuncts E) (c : Conjunct E) (rest : Conjuncts E)
      → IsFirstReady known cs c rest → OccursInOne c x ⊎ OccursInAll rest x → OccursInAll cs x
  first-occurs known none c rest f o = absurd f
  first-occurs known (also d ds) c rest (inl f) (inl o) = inl (subst (λ z. OccursInOne z x) (sym f.1) o)
  first-occurs known (also d ds) c rest (inl f) (inr o) = inr (subst (λ z. OccursInAll z x) (sym f.2) o)
  first-occurs known (also d ds) c rest (inr f) (inl o) = inr (first-occurs known ds c f.1.0 f.1.1 (inl o))
  first-occurs known (also d ds) c rest (inr f) (inr o) =
      elim (subst (λ z. OccursInAll z x) f.1.2 o) [
        | inl i ↦ inl i
        | inr i ↦ inr (first-occurs known ds c f.1.0 f.1.1 (inr i))
      ]

  mutual
    order-occurs : (known : ℕ → Bool) (cs os : Conjuncts E) → IsOrder known cs os → OccursInAll os x
        → OccursInAll cs x
    order-occurs known cs none i o = absurd o
    order-occurs known cs (also d ds) i (inl o) =
        first-occurs known cs i.0 i.1 i.2 (inl (within-occurs known i.0 d i.3 o))
    order-occurs known cs (also d ds) i (inr o) =
        first-occurs known cs i.0 i.1 i.2 (inr (order-occurs (known_after i.0 known) i.1 ds i.4 o))

    within-occurs : (known : ℕ → Bool) (c d : Conjunct E) → IsOrderWithin known c d → OccursInOne d x
        → OccursInOne c x
    within-occurs known c (holds q t) i o = subst (λ z. OccursInOne z x) (sym i) o
    within-occurs known c (points q y fs) i o = subst (λ z. OccursInOne z x) (sym i) o
    within-occurs known c (segment q next y z) i o = subst (λ z. OccursInOne z x) (sym i) o
    within-occurs known c (doubly q next back y b l z) i o = subst (λ z. OccursInOne z x) (sym i) o
    within-occurs known c (tree q left right y) i o = subst (λ z. OccursInOne z x) (sym i) o
    within-occurs known c (choose q t this that) i (inl o) = subst (λ z. OccursInOne z x) (sym i.2) (inl o)
    within-occurs known c (choose q t this that) i (inr (inl o)) =
        subst (λ z. OccursInOne z x) (sym i.2) (inr (inl (inside-occurs known i.0 this i.3 o)))
    within-occurs known c (choose q t this that) i (inr (inr o)) =
        subst (λ z. OccursInOne z x) (sym i.2) (inr (inr (inside-occurs known i.1 that i.4 o)))

    inside-occurs : (known : ℕ → Bool) (a b : Level E) → IsOrderInside known a b → OccursIn b x → OccursIn a x
    inside-occurs known a (level made os) i o =
        subst (λ z. OccursIn z x) (sym i.1) (order-occurs (known_inside made known) i.0 os i.2 o.0, o.1)

  -- what occurs in an assertion in order occurs in it
  level-occurs : (known : ℕ → Bool) (a b : Level E) → IsOrderFrom known a b → OccursIn b x → OccursIn a x
  level-occurs known a (level made os) i o =
      subst (λ z. OccursIn z x) (sym i.1) (order-occurs known i.0 os i.2 o.0, o.1)

pub variable-occurs : (a b : Assertion) → IsOrderOf a b → (x : Var) → VarOccursIn b.level x → VarOccursIn a.level x
variable-occurs a b i x (at, is, o) = (at, is, level-occurs _ (λ n. false) a.level b.level i.level o)

-- an annotation that has an order and is well formed in that order may be used
pub usable-of : OrderKeepsMeaning → OrderedIsDetermined → (d : Setting) (V W : Var → Type 0) (a : Assertion)
    → IsOrderOf a (d.ordered a) → AssertionWithin d.program.fields W (d.ordered a)
    → ((x : Var) → VarOccursIn a.level x → V x) → IsUsable d V a
usable-of meaning determined d V W a order within occurs = record {
  plain = plain-of d.program.fields W V (d.ordered a) within (λ x o. occurs x (variable-occurs a (d.ordered a) order x o));
  means = λ vars heap. meaning a.level (d.ordered a).level vars (λ n. nil) heap order.level;
  precise = λ vars. determined-precise a.level (value vars) (λ n. nil)
      (determined a.level (d.ordered a).level order.level).0;
}
