use Rattle.std.proofs.Common.{◌∙◌, Some, ap}
use Rattle.std.specs.List.{list_any}
use Rattle.sf_base.proofs.Bools.{and-left}
use Rattle.sf_sym.specs.Checked.Keeping.{are_allocated, row_allocates, rows_of}
use Rattle.sf_sym.specs.Checked.Wanted.{all_rows, is_first}
use Rattle.sf_sym.proofs.ByRows.{any-at}
use Rattle.sf_sym.proofs.store.Store.has_first.Goals as goal

pub loop-row-init : goal.loop-row-init
loop-row-init c =
    let s = c.args.self.now in
    let test = is_first s c.args.t c.args.u in
    ap (list_any test) c.at-left.ensures
    ∙ any-at s.apart (all_rows s) (rows_of s.atoms) s.index.roots s.index.cells s.index.marks c.requires.indexed c.args.t test
    (λ r e. and-left (row_allocates s.apart c.args.t r) (are_allocated s.apart (all_rows s) c.args.u (Some r.number)) e)
