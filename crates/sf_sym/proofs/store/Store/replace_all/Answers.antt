use Rattle.std.proofs.Common.{◌++◌, map, ap₂, subst}
use Rattle.sf_sym.specs.Checked.Keeping.{rows_of}
use Rattle.sf_sym.specs.Checked.Stores.{AreAllMarked, IsMade, heap}
use Rattle.sf_sym.specs.Equalities.{numbered_with, put_for}
use Rattle.sf_sym.proofs.Bounds.{bounded-replaced}
use Rattle.sf_sym.proofs.Stores.{store-replaced}
use Rattle.sf_sym.proofs.store.Store.replace_all.Goals as goal

pub returns-clause-kept : goal.returns-clause-kept
returns-clause-kept c =
    let s = c.args.self.now in
    let i = c.in_ok-index.index in
    let same = ap₂ (λ xs ys. xs ++ ys) c.as_slice.ensures c.deref.ensures.value in
    let most = c.above_term-self.result in
    let to = put_for c.args.r.symbol c.args.r.by in
    let taken = c.replace_in_taken.ensures in
    store-replaced (heap s) to c.requires.numbered most c.in_ok-apart.apart c.replace.new.self c.replace_in_taken.new.taken.items c.replace.ensures taken
    (bounded-replaced s.above most c.above_term-self.ensures.least c.args.r.symbol c.args.r.by c.above_term-self.ensures.below (heap s)
    c.requires.bounded c.in_ok-apart.apart c.replace.new.self c.replace_in_taken.new.taken.items c.in_ok-apart.ensures c.replace.ensures taken) i.roots i.cells i.marks
    (subst (λ xs. IsMade c.in_ok-apart.apart (rows_of (map (numbered_with to) xs)) i.roots i.cells) same
    c.in_ok-index.ensures.made)
    (subst (λ xs. AreAllMarked (rows_of (map (numbered_with to) xs)) i.marks) same c.in_ok-index.ensures.marks)
