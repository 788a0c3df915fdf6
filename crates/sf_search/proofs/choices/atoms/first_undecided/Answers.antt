use Rattle.std.proofs.Common.{ap, sym, subst, ◌∙◌}
use Rattle.sf_sym.specs.Numbers.{AreRising, numbers}
use Rattle.sf_search.specs.Strategy.{lowest, undecided_ends}
use Rattle.sf_search.proofs.Lowest.{lowest_first}
use Rattle.sf_search.proofs.choices.atoms.first_undecided.Goals as goal

pub returns-in-Some-undecided_ends : goal.returns-in-Some-undecided_ends
returns-in-Some-undecided_ends c =
    sym (c.loop-first.invariant.same ∙ ap (lowest (undecided_ends c.args.state.now)) c.in-Some.ensures.cases.0
    ∙ lowest_first (undecided_ends c.args.state.now) c.in-Some.first.now c.in-Some.rest.now c.in-Some-undecided_ends.ends
    (subst (λ xs. AreRising (numbers xs)) c.in-Some.ensures.cases.0 c.loop-first.invariant.rising)
    (sym c.undecided_ends.ensures ∙ c.in-Some-undecided_ends.is))
