use Rattle.std.proofs.Common.{◌∙◌, Some, ap, sym}
use Rattle.std.proofs.lemmas.Option.{none-some, same_Some}
use Rattle.sf_search.specs.Checked.Seeking.{sought_at}
use Rattle.sf_search.proofs.Seeking.{kind-found, kind-none}
use Rattle.sf_search.proofs.choices.seeking.lowest_at.Goals as goal

-- no atom is of that kind there
pub returns-in_err-a : goal.returns-in_err-a
returns-in_err-a c =
    c.from_residual.ensures
    ∙ sym (kind-none c.args.kind c.args.t c.args.state.now.atoms c.lowest_at.result c.lowest_at.ensures c.in_err-a.was)

-- the atom of that number is there
pub returns-in_err-atom : goal.returns-in_err-atom
returns-in_err-atom c =
    let w = kind-found c.args.kind c.args.t c.args.state.now.atoms c.is_numbered.ensures.rising c.lowest_at.result
    c.in_ok-a.a c.lowest_at.ensures c.in_ok-a.was in
    absurd (none-some w.0 (c.in_err-atom.ensures ∙ w.2))

-- and it is what is sought
pub returns-in_err-end : goal.returns-in_err-end
returns-in_err-end c =
    let w = kind-found c.args.kind c.args.t c.args.state.now.atoms c.is_numbered.ensures.rising c.lowest_at.result
    c.in_ok-a.a c.lowest_at.ensures c.in_ok-a.was in
    let same = same_Some c.in_ok-atom.atom.now w.0 (c.in_ok-atom.ensures ∙ w.2) in
    absurd (none-some w.1 (c.in_err-end.ensures ∙ ap (sought_at c.args.kind c.args.t) same ∙ w.3))

pub returns : goal.returns
returns c =
    let w = kind-found c.args.kind c.args.t c.args.state.now.atoms c.is_numbered.ensures.rising c.lowest_at.result
    c.in_ok-a.a c.lowest_at.ensures c.in_ok-a.was in
    let same = same_Some c.in_ok-atom.atom.now w.0 (c.in_ok-atom.ensures ∙ w.2) in
    let end = same_Some c.in_ok-end.end w.1
    (c.in_ok-end.ensures ∙ ap (sought_at c.args.kind c.args.t) same ∙ w.3) in
    ap (λ e. Some (c.in_ok-a.a, e)) end ∙ sym w.4
