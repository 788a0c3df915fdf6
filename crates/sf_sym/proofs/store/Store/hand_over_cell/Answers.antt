use Rattle.std.proofs.Common.{◌++◌, ◌∷◌, [], refl, sym, ap, ap₂, ◌∙◌, subst}
use Rattle.sf_sym.specs.declared.atom.Atom.TheVariants.{Points}
use Rattle.sf_sym.specs.declared.atom.Numbered.{Numbered}
use Rattle.sf_sym.specs.Checked.Stores.{Heap, IsKept, heap}
use Rattle.sf_sym.proofs.Stores.{cell-there, store-handed}
use Rattle.sf_sym.proofs.store.Store.hand_over_cell.Goals as goal

pub returns-clause-kept : goal.returns-clause-kept
returns-clause-kept c =
    let s = c.args.self.now in
    let y : Numbered = record { number = c.args.a; atom = Points c.args.root c.args.fields } in
    let taken = c.push_reserved.ensures.items ∙ ap (λ xs. xs ++ y ∷ []) c.in_ok-reserve.ensures.items in
    let there = cell-there c.args.a s.atoms c.args.root c.requires.there in
    subst (λ (h : Heap). IsKept h c.above_atom-above.result s.index.roots s.index.cells s.index.marks)
    (sym (ap₂ (λ xs ys. record (heap s) { atoms = xs; taken = ys }) c.take_out.ensures.others taken))
    (store-handed (heap s) s.above s.index.roots s.index.cells s.index.marks c.requires.kept c.args.a there.0 there.1 y refl
    (sym there.2) c.above_atom-above.result c.above_atom-above.ensures.least c.above_atom-above.ensures.below)
