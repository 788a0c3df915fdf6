use Rattle.std.proofs.Common.{sym, ap, ◌∙◌}
use Rattle.std.specs.List.{list_any}
use Rattle.sf_sym.specs.declared.term.Term.TheVariants.{Sym}
use Rattle.sf_sym.specs.Checked.Empties.{empty_numbers}
use Rattle.sf_sym.specs.Checked.Keeping.{rows_of}
use Rattle.sf_sym.specs.Checked.Rows.{has_term}
use Rattle.sf_sym.proofs.Stores.{rows-absent}
use Rattle.sf_sym.proofs.atoms.Atoms.replace_in_fields.Goals as goal

pub invariant_of-self : goal.invariant_of-self
invariant_of-self c =
    c.self.invariant
    ∙ sym (ap empty_numbers (ap rows_of c.replace.ensures
    ∙ rows-absent c.args.r.symbol c.args.r.by c.self.inside.parts
    (ap (list_any (λ a. has_term (Sym c.args.r.symbol) a.atom)) c.self.view_is ∙ c.requires)))
