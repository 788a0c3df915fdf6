use Rattle.std.proofs.Common.{◌∙◌, ap, not}
use Rattle.std.specs.List.{list_any}
use Rattle.sf_base.proofs.Bools.{and-right}
use Rattle.sf_sym.specs.Checked.Keeping.{row_allocates, row_beside, rows_of}
use Rattle.sf_sym.specs.Checked.Wanted.{all_rows}
use Rattle.sf_sym.specs.Tests.{is_left_out}
use Rattle.sf_sym.proofs.ByRows.{any-at}
use Rattle.sf_sym.proofs.store.Store.has_allocator.Goals as goal

pub loop-row-init : goal.loop-row-init
loop-row-init c =
    let s = c.args.self.now in
    let test = row_beside s.apart c.args.t c.args.except in
    ap (list_any test) c.at-left.ensures
    ∙ any-at s.apart (all_rows s) (rows_of s.atoms) s.index.roots s.index.cells s.index.marks c.requires.indexed c.args.t test
    (λ r e. and-right (not (is_left_out c.args.except r.number)) (row_allocates s.apart c.args.t r) e)
