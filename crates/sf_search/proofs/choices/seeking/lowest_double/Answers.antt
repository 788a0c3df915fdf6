use Rattle.std.proofs.Common.{◌∙◌, Some, ap, sym}
use Rattle.std.proofs.lemmas.Option.{none-some, same_Some}
use Rattle.sf_search.specs.Strategy.{double_at}
use Rattle.sf_search.proofs.Seeking.{found-lowest, found-no-lowest, same-double}
use Rattle.sf_sym.specs.declared.atom.Kind.TheVariants as kind
use Rattle.sf_sym.specs.Kinds.{is_kind}
use Rattle.sf_search.proofs.choices.seeking.lowest_double.Goals as goal

-- no atom is one there
pub returns-in_err-a : goal.returns-in_err-a
returns-in_err-a c =
    c.from_residual.ensures
    ∙ sym (found-no-lowest (double_at c.args.t) (is_kind kind.Double c.args.t) (same-double c.args.t) c.args.state.now.atoms
    c.lowest_at.result c.lowest_at.ensures c.in_err-a.was)

-- the atom of that number is there
pub returns-in_err-atom : goal.returns-in_err-atom
returns-in_err-atom c =
    let w = found-lowest (double_at c.args.t) (is_kind kind.Double c.args.t) (same-double c.args.t) c.args.state.now.atoms
    c.is_numbered.ensures.rising c.lowest_at.result c.in_ok-a.a c.lowest_at.ensures c.in_ok-a.was in
    absurd (none-some w.0 (c.in_err-atom.ensures ∙ w.2))

-- and it is one
pub returns-in_err-rest : goal.returns-in_err-rest
returns-in_err-rest c =
    let w = found-lowest (double_at c.args.t) (is_kind kind.Double c.args.t) (same-double c.args.t) c.args.state.now.atoms
    c.is_numbered.ensures.rising c.lowest_at.result c.in_ok-a.a c.lowest_at.ensures c.in_ok-a.was in
    let same = same_Some c.in_ok-atom.atom.now w.0 (c.in_ok-atom.ensures ∙ w.2) in
    absurd (none-some w.1 (c.in_err-rest.ensures ∙ ap (double_at c.args.t) same ∙ w.3))

pub returns : goal.returns
returns c =
    let w = found-lowest (double_at c.args.t) (is_kind kind.Double c.args.t) (same-double c.args.t) c.args.state.now.atoms
    c.is_numbered.ensures.rising c.lowest_at.result c.in_ok-a.a c.lowest_at.ensures c.in_ok-a.was in
    let same = same_Some c.in_ok-atom.atom.now w.0 (c.in_ok-atom.ensures ∙ w.2) in
    let found = same_Some c.in_ok-rest.rest w.1 (c.in_ok-rest.ensures ∙ ap (double_at c.args.t) same ∙ w.3) in
    ap (λ e. Some (c.in_ok-a.a, e)) found ∙ sym w.4
