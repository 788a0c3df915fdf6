use Rattle.std.proofs.Common.{sym, ap, ◌∙◌, subst}
use Rattle.sf_sym.specs.declared.outline.Row.{Row}
use Rattle.sf_sym.specs.Checked.Keeping.{Forgets}
use Rattle.sf_sym.specs.Checked.Stores.{Heap, IsKept, heap}
use Rattle.sf_sym.proofs.Stores.{store-removed, without-none}
use Rattle.sf_sym.proofs.store.Store.remove_atom.Goals as goal

pub returns-in_err-atom-clause-kept : goal.returns-in_err-atom-clause-kept
returns-in_err-atom-clause-kept c =
    let s = c.args.self.now in
    subst (λ (h : Heap). IsKept h s.above s.index.roots s.index.cells s.index.marks)
    (sym (ap (λ xs. record (heap s) { atoms = xs })
    (c.take_out.ensures.others ∙ without-none c.args.a s.atoms (sym c.in_err-atom.ensures.atom)))) c.requires

pub returns-clause-kept : goal.returns-clause-kept
returns-clause-kept c =
    let s = c.args.self.now in
    let i = c.forget.new.self in
    let row = ap (λ o. record { number = c.args.a; outline = o }) c.of-outline.ensures in
    subst (λ (h : Heap). IsKept h s.above i.roots i.cells i.marks)
    (sym (ap (λ xs. record (heap s) { atoms = xs }) c.take_out.ensures.others))
    (store-removed (heap s) s.above s.index.roots s.index.cells s.index.marks c.requires c.args.a c.in_ok-atom.atom (sym c.in_ok-atom.ensures.atom) i.roots i.cells i.marks
    (subst (λ (z : Row). Forgets z s.index.roots s.index.cells s.index.marks i.roots i.cells i.marks) row c.forget.ensures))
