use Rattle.std.proofs.Common.{◌∙◌, sym, ap}
use Rattle.std.specs.Option.{option_and_then, option_map}
use Rattle.sf_sym.proofs.LowestRows.{answer, forced_first}
use Rattle.sf_sym.proofs.store.Store.forced.Goals as goal

pub returns-in_err-row : goal.returns-in_err-row
returns-in_err-row c =
    let s = c.args.self.now in
    c.from_residual.ensures ∙ ap (option_and_then (answer s)) (sym c.in_err-row.was ∙ c.lowest_marked.ensures)
    ∙ forced_first s c.requires

pub returns-in_err-t : goal.returns-in_err-t
returns-in_err-t c =
    let s = c.args.self.now in
    c.from_residual-in_err-t.ensures
    ∙ ap (option_map (λ e. (c.in_ok-row.row.number, e.0, e.1))) (sym c.in_err-t.was ∙ c.forced_by.ensures)
    ∙ ap (option_and_then (answer s)) (sym c.in_ok-row.was ∙ c.lowest_marked.ensures)
    ∙ forced_first s c.requires

pub returns : goal.returns
returns c =
    let s = c.args.self.now in
    ap (option_map (λ e. (c.in_ok-row.row.number, e.0, e.1))) (sym c.in_ok-t.was ∙ c.forced_by.ensures)
    ∙ ap (option_and_then (answer s)) (sym c.in_ok-row.was ∙ c.lowest_marked.ensures)
    ∙ forced_first s c.requires
