use Rattle.std.proofs.Common.{◌↔◌, Bool, IsTrue, not, sym, ◌∙◌, refl, subst}
use Rattle.sf_core.specs.declared.assertion.Test.TheVariants.{Differ}
use Rattle.sf_witness.specs.Checked.Wishes.{IsTrueWith}
use Rattle.sf_witness.proofs.Wishes.{different-both, different-second, free-decides, not-decides}
use Rattle.sf_witness.proofs.wanted.is_different.Goals as goal

pub returns-in_default : goal.returns-in_default
returns-in_default c =
    subst (λ (b : Bool). IsTrue (not b) ↔ IsTrueWith c.args.bindings.now (Differ c.args.x.now c.args.y.now))
    (sym c.is_one.ensures) (free-decides c.args.bindings.now c.args.x.now c.args.y.now (sym c.in_default.ensures))

pub returns-in_default-term_of : goal.returns-in_default-term_of
returns-in_default-term_of c = (
  λ i. different-second c.args.bindings.now c.args.x.now c.args.y.now c.in-Some.t (sym c.in-Some.ensures)
      (sym c.in_default-term_of.ensures),
  λ w. refl,
)

pub returns : goal.returns
returns c =
    let both = different-both c.args.bindings.now c.args.x.now c.args.y.now c.in-Some.t c.in-Some-term_of.u
    (sym c.in-Some.ensures) (sym c.in-Some-term_of.ensures) in
    not-decides c.is_same.result _ _ c.is_same.ensures (
      λ n. both.0 (λ e. n (c.value_at.ensures ∙ e ∙ sym c.value_at-2.ensures)),
      λ w e. both.1 w (sym c.value_at.ensures ∙ e ∙ c.value_at-2.ensures),
    )
