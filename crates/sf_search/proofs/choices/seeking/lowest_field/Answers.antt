use Rattle.std.proofs.Common.{◌∙◌, Some, ap, sym}
use Rattle.std.proofs.lemmas.Option.{none-some, same_Some}
use Rattle.std.specs.Option.{option_map}
use Rattle.sf_search.specs.Checked.Chooses.{field_of}
use Rattle.sf_search.proofs.Seeking.{found-lowest, found-no-lowest, same-cell}
use Rattle.sf_sym.specs.Cells.{fields_at}
use Rattle.sf_sym.specs.declared.atom.Kind.TheVariants as kind
use Rattle.sf_sym.specs.Fields.{field_term}
use Rattle.sf_sym.specs.Kinds.{is_kind}
use Rattle.sf_search.proofs.choices.seeking.lowest_field.Goals as goal

-- no atom is a cell there
pub returns-in_err-a : goal.returns-in_err-a
returns-in_err-a c =
    c.from_residual.ensures
    ∙ sym (ap (option_map (field_of c.args.f))
    (found-no-lowest (λ x. fields_at x c.args.t) (is_kind kind.Cell c.args.t) (same-cell c.args.t)
    c.args.state.now.atoms c.lowest_at.result c.lowest_at.ensures c.in_err-a.was))

-- the atom of that number is there
pub returns-in_err-atom : goal.returns-in_err-atom
returns-in_err-atom c =
    let w = found-lowest (λ x. fields_at x c.args.t) (is_kind kind.Cell c.args.t) (same-cell c.args.t)
    c.args.state.now.atoms c.is_numbered.ensures.rising c.lowest_at.result c.in_ok-a.a c.lowest_at.ensures
    c.in_ok-a.was in
    absurd (none-some w.0 (c.in_err-atom.ensures ∙ w.2))

-- and it is one
pub returns-in_err-fields : goal.returns-in_err-fields
returns-in_err-fields c =
    let w = found-lowest (λ x. fields_at x c.args.t) (is_kind kind.Cell c.args.t) (same-cell c.args.t)
    c.args.state.now.atoms c.is_numbered.ensures.rising c.lowest_at.result c.in_ok-a.a c.lowest_at.ensures
    c.in_ok-a.was in
    let same = same_Some c.in_ok-atom.atom.now w.0 (c.in_ok-atom.ensures ∙ w.2) in
    absurd (none-some w.1 (c.in_err-fields.ensures ∙ ap (λ x. fields_at x c.args.t) same ∙ w.3))

pub returns : goal.returns
returns c =
    let w = found-lowest (λ x. fields_at x c.args.t) (is_kind kind.Cell c.args.t) (same-cell c.args.t)
    c.args.state.now.atoms c.is_numbered.ensures.rising c.lowest_at.result c.in_ok-a.a c.lowest_at.ensures
    c.in_ok-a.was in
    let same = same_Some c.in_ok-atom.atom.now w.0 (c.in_ok-atom.ensures ∙ w.2) in
    let fields = same_Some c.in_ok-fields.fields.now w.1
    (c.in_ok-fields.ensures ∙ ap (λ x. fields_at x c.args.t) same ∙ w.3) in
    ap (λ o. Some (c.in_ok-a.a, o)) (c.field_term.ensures ∙ ap (λ fs. field_term fs c.args.f) fields)
    ∙ sym (ap (option_map (field_of c.args.f)) w.4)
