-- What is wanted with other terms of the same values.
use Rattle.sf_consume.specs.Checked.Laws.{RestatedTermsAreWanted}
use Rattle.sf_sym.specs.Checked.Lemmas.Restated.{bound-restated, sat-restated}

pub restated_terms_are_wanted : RestatedTermsAreWanted
unfolding RestatedTermsAreWanted
restated_terms_are_wanted below earlier later to s after want same terms some heap =
    let bound = bound-restated below earlier later to same want.bindings some terms.bindings in
    let sat = sat-restated below earlier later to same want.conjuncts some heap terms.conjuncts in (
      λ d. record { bound = bound.0 d.bound; satisfied = sat.0 d.satisfied },
      λ d. record { bound = bound.1 d.bound; satisfied = sat.1 d.satisfied },
    )
