use Rattle.std.proofs.Common.{◌++◌, sym, ap, subst}
use Rattle.sf_sym.specs.Checked.Keeping.{rows_of}
use Rattle.sf_sym.specs.Checked.Stores.{Heap, IsKept, heap}
use Rattle.sf_sym.proofs.Stores.{store-pair, store-remains}
use Rattle.sf_sym.proofs.store.Store.assume_apart.Goals as goal

pub returns-in_err-cover-clause-kept : goal.returns-in_err-cover-clause-kept
returns-in_err-cover-clause-kept c =
    let s = c.args.self.now in
    let i = c.cover.new.self in
    store-remains (heap s) s.above s.index.roots s.index.cells s.index.marks c.requires i.roots i.cells i.marks c.cover.ensures.kept

pub returns-in_err-push-clause-kept : goal.returns-in_err-push-clause-kept
returns-in_err-push-clause-kept c =
    let s = c.args.self.now in
    let i = c.cover.new.self in
    subst (λ (h : Heap). IsKept h s.above i.roots i.cells i.marks)
    (sym (ap (λ ps. record (heap s) { apart = ps }) c.in_err-push.ensures.err))
    (store-remains (heap s) s.above s.index.roots s.index.cells s.index.marks c.requires i.roots i.cells i.marks c.cover.ensures.kept)

pub returns-clause-kept : goal.returns-clause-kept
returns-clause-kept c =
    let s = c.args.self.now in
    let i = c.cover.new.self in
    let rows = rows_of (s.atoms ++ s.taken.items) in
    subst (λ (h : Heap). IsKept h c.above_terms-self.result i.roots i.cells i.marks)
    (sym (ap (λ ps. record (heap s) { apart = ps }) c.in_ok-push.ensures.ok))
    (store-pair (heap s) s.above i.roots i.cells i.marks
    (store-remains (heap s) s.above s.index.roots s.index.cells s.index.marks c.requires i.roots i.cells i.marks c.cover.ensures.kept)
    c.args.t c.args.u (c.in_ok-cover.ensures.ready rows (rows_of s.atoms) c.requires.indexed) c.above_terms-self.result
    c.above_terms-self.ensures.least c.above_terms-self.ensures.first c.above_terms-self.ensures.second)
