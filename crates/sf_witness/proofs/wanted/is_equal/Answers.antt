use Rattle.std.proofs.Common.{sym, ◌∙◌, refl}
use Rattle.sf_witness.proofs.Wishes.{equal-both, equal-first, equal-second}
use Rattle.sf_witness.proofs.wanted.is_equal.Goals as goal

pub returns-in_default : goal.returns-in_default
returns-in_default c =
    (λ i. equal-first c.args.bindings.now c.args.x.now c.args.y.now (sym c.in_default.ensures), λ w. refl)

pub returns-in_default-term_of : goal.returns-in_default-term_of
returns-in_default-term_of c =
    (λ i. equal-second c.args.bindings.now c.args.x.now c.args.y.now (sym c.in_default-term_of.ensures), λ w. refl)

pub returns : goal.returns
returns c =
    let both = equal-both c.args.bindings.now c.args.x.now c.args.y.now c.in-Some.t c.in-Some-term_of.u
    (sym c.in-Some.ensures) (sym c.in-Some-term_of.ensures) in (
      λ i. both.0 (sym c.value_at.ensures ∙ c.is_same.ensures.0 i ∙ c.value_at-2.ensures),
      λ w. c.is_same.ensures.1 (c.value_at.ensures ∙ both.1 w ∙ sym c.value_at-2.ensures),
    )
