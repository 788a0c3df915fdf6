use Rattle.std.proofs.Common.{◌∙◌, ap}
use Rattle.std.specs.List.{list_any}
use Rattle.sf_sym.specs.Checked.Keeping.{is_hopeless, rows_of}
use Rattle.sf_sym.specs.Checked.Wanted.{all_rows}
use Rattle.sf_sym.proofs.ByRows.{any-marked}
use Rattle.sf_sym.proofs.store.Store.has_hopeless.Goals as goal

pub loop-row-init : goal.loop-row-init
loop-row-init c =
    let s = c.args.self.now in
    let test = is_hopeless s.apart (all_rows s) in
    ap (list_any test) c.as_slice-left.ensures
    ∙ any-marked s.apart (all_rows s) (rows_of s.atoms) s.index.roots s.index.cells s.index.marks c.requires.indexed test
    c.requires.indexed.quiet.hopeful
