use Rattle.std.proofs.Common.{◌≡◌, false, None, ap, sym, ◌∙◌, rules}
use Rattle.std.specs.Option.{option_map}
use Rattle.sf_search.proofs.Lowest.{forced_is_lowest, nothing_is_lowest, state_forced, state_none}
use Rattle.sf_search.specs.Strategy.{lowest, lowest_forced, or_else, which}
use Rattle.sf_sym.specs.Known.{first_nothing, is_nothing}
use Rattle.sf_sym.specs.Tests.{is_absurd}
use Rattle.sf_search.proofs.choices.whole.at_state.Goals as goal

pub returns-in_err-a : goal.returns-in_err-a
returns-in_err-a c = λ z.
    let s = c.args.state.now in
    let possible : is_absurd s ≡ false = search rules in
    let none : first_nothing s.atoms ≡ None = search rules in
    ap (λ o. or_else (o) z) c.from_residual.ensures
    ∙ sym (state_none (is_absurd s) (lowest (which is_nothing) s.atoms) (lowest_forced s s.atoms) z possible
    (nothing_is_lowest s.atoms c.is_numbered.ensures.rising ∙ none)
    (forced_is_lowest s s.atoms c.is_numbered.ensures.rising
    ∙ ap (option_map (λ f. f.0)) (sym c.forced.ensures.first ∙ c.in_err-a.was)))

pub returns : goal.returns
returns c = λ z.
    let s = c.args.state.now in
    let possible : is_absurd s ≡ false = search rules in
    let none : first_nothing s.atoms ≡ None = search rules in
    sym (state_forced (is_absurd s) (lowest (which is_nothing) s.atoms) (lowest_forced s s.atoms) z c.in_ok-a.a
    possible
    (nothing_is_lowest s.atoms c.is_numbered.ensures.rising ∙ none)
    (forced_is_lowest s s.atoms c.is_numbered.ensures.rising
    ∙ ap (option_map (λ f. f.0)) (sym c.forced.ensures.first ∙ c.in_ok-a.was)))
