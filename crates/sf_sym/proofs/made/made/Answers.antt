use Rattle.std.proofs.Common.{[], ◌++◌, map, sym, subst}
use Rattle.sf_sym.specs.Checked.Keeping.{rows_of}
use Rattle.sf_sym.specs.Checked.Stores.{IsMade}
use Rattle.sf_sym.specs.Equalities.{numbered_with, put_for}
use Rattle.sf_sym.proofs.Making.{none-new, rows-both}
use Rattle.sf_sym.proofs.made.made.Goals as goal

pub returns-clause-made : goal.returns-clause-made
returns-clause-made c =
    let to = numbered_with (put_for c.args.r.symbol c.args.r.by) in
    let i = c.with_marks-index.result in
    let k = c.enter_all-2.new.self in
    let xs = rows_of (map to c.args.atoms.now) in
    subst (λ rows. IsMade c.args.apart.now rows k.roots k.cells) (sym (rows-both to c.args.atoms.now c.args.taken.now))
    (c.in_ok-enter_all-2.ensures.made ([] ++ xs)
    (c.in_ok-enter_all.ensures.made []
    (none-new c.args.apart.now i.roots i.cells c.with_marks-index.ensures.roots c.with_marks-index.ensures.cells)))
