use Rattle.std.proofs.Common.{sym, ap, not, ◌∙◌, subst}
use Rattle.std.proofs.lemmas.Bool.{and_from}
use Rattle.std.specs.List.{list_any}
use Rattle.sf_sym.specs.Checked.Keeping.{EntersOf, In, gets_cell, joins}
use Rattle.sf_sym.specs.Checked.Rows.{bare, rows_at}
use Rattle.sf_sym.specs.Tests.{has_cell}
use Rattle.sf_sym.proofs.Entering.{covered-one, enters-roots, gets-none}
use Rattle.sf_sym.proofs.Indexed.{on-ok}
use Rattle.sf_sym.proofs.index.cover_at.Goals as goal

pub returns-then-not-any_gets_cell-clause-ok : goal.returns-then-not-any_gets_cell-clause-ok
returns-then-not-any_gets_cell-clause-ok c = λ x h j e.
    absurd (gets-none c.args.apart.now c.args.pair (rows_at c.args.roots.now c.args.at) x c.any_gets_cell.result
    (c.any_gets_cell.ensures ∙ ap (list_any (gets_cell c.args.apart.now c.args.pair)) c.at-rows.ensures)
    c.if-not-any_gets_cell.true h j e)

pub returns-clause-only : goal.returns-clause-only
returns-clause-only c =
    enters-roots c.args.roots.now c.args.cells.now c.enter_new.new.cells c.args.at
    (subst (λ xs. EntersOf xs c.args.cells.now c.enter_new.new.cells) c.at-rows.ensures c.enter_new.ensures.only)

pub returns-clause-ok : goal.returns-clause-ok
returns-clause-ok c =
    on-ok c.enter_new.result
    (λ ok x h j e.
    covered-one c.args.roots.now c.enter_new.new.cells c.mark_others.new.marks c.args.at c.requires x h
    (ok x (subst (In x) (sym c.at-rows.ensures) h)
    (and_from (joins c.args.pair (bare x.outline)) (not (has_cell c.args.apart.now (bare x.outline))) j (ap not e)))
    (λ r i. c.mark_others.ensures.still r (c.in_ok-add_all.ensures.ok r (subst (In r) (sym c.at-rows.ensures) i)))
    (c.in_ok-mark_others.ensures.ok x (subst (In x) (sym c.at-rows.ensures) h))) c.enter_new.ensures.ok
