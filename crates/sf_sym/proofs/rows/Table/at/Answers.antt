use Rattle.std.proofs.Common.{◌∙◌, sym, ap}
use Rattle.sf_sym.specs.Checked.Rows.{rows_at}
use Rattle.sf_sym.proofs.Indexed.{at-seen, items_or}
use Rattle.sf_sym.proofs.rows.Table.at.Goals as goal

pub returns-in-Some : goal.returns-in-Some
returns-in-Some c =
    c.as_slice.ensures.keys ∙ ap (items_or (λ v. v.keys)) c.in-Some.ensures.value
    ∙ sym (at-seen (λ v. v.keys) c.self.inside.by_term.entries c.args.t) ∙ ap (λ s. rows_at s c.args.t) c.self.view_is

pub returns-in-None : goal.returns-in-None
returns-in-None c =
    ap (items_or (λ v. v.keys)) c.in-None.ensures.value
    ∙ sym (at-seen (λ v. v.keys) c.self.inside.by_term.entries c.args.t) ∙ ap (λ s. rows_at s c.args.t) c.self.view_is
