use Rattle.std.proofs.Common.{◌∙◌, None, Some, ap, sym, subst}
use Rattle.std.specs.Option.{option_and_then}
use Rattle.sf_sym.specs.declared.found.Wanted.TheVariants.{At}
use Rattle.sf_sym.specs.declared.outline.Row.{Row}
use Rattle.sf_sym.specs.Checked.Wanted.{is_wanted, lowest_of}
use Rattle.sf_sym.specs.Kinds.{is_kind}
use Rattle.sf_sym.specs.Known.{IsLowest}
use Rattle.sf_sym.proofs.LowestRows.{at_lowest}
use Rattle.sf_sym.proofs.store.Store.lowest_at.Goals as goal

pub returns-in_err-row : goal.returns-in_err-row
returns-in_err-row c =
    let s = c.args.self.now in
    subst (IsLowest (λ a. is_kind c.args.kind c.args.t a.atom) s.atoms)
    (ap (option_and_then (λ (r : Row). Some r.number))
    (ap (lowest_of (is_wanted s (At c.args.t c.args.kind)) None) (sym c.at.ensures) ∙ sym c.lowest.ensures ∙ c.in_err-row.was)
    ∙ sym c.from_residual.ensures) (at_lowest s c.requires c.args.t c.args.kind)

pub returns : goal.returns
returns c =
    let s = c.args.self.now in
    subst (IsLowest (λ a. is_kind c.args.kind c.args.t a.atom) s.atoms)
    (ap (option_and_then (λ (r : Row). Some r.number))
    (ap (lowest_of (is_wanted s (At c.args.t c.args.kind)) None) (sym c.at.ensures) ∙ sym c.lowest.ensures ∙ c.in_ok-row.was))
    (at_lowest s c.requires c.args.t c.args.kind)
