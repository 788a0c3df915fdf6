use Rattle.std.proofs.Common.{◌++◌, map, sym, subst}
use Rattle.sf_sym.specs.Checked.Keeping.{rows_of}
use Rattle.sf_sym.specs.Checked.Stores.{AreAllMarked}
use Rattle.sf_sym.specs.Equalities.{numbered_with, put_for}
use Rattle.sf_sym.proofs.Making.{all-marked, rows-both}
use Rattle.sf_sym.proofs.made.made_marked.Goals as goal

pub returns-clause-marks : goal.returns-clause-marks
returns-clause-marks c =
    let to = numbered_with (put_for c.args.r.symbol c.args.r.by) in
    let xs = rows_of (map to c.args.atoms.now) in
    let ys = rows_of (map to c.args.taken.now) in
    subst (λ rows. AreAllMarked rows c.in_ok-index.index.marks) (sym (rows-both to c.args.atoms.now c.args.taken.now))
    (subst (AreAllMarked (xs ++ ys)) (sym c.in_ok-index.ensures.marks)
    (all-marked xs ys c.new-marks.result c.add_atoms.new.self c.add_atoms-2.new.self c.new-marks.ensures
    c.in_ok-add_atoms.ensures.ok c.add_atoms.ensures.only c.in_ok-add_atoms-2.ensures.ok c.add_atoms-2.ensures.still
    c.add_atoms-2.ensures.only))
