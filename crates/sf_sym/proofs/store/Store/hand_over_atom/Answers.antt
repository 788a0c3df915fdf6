use Rattle.std.proofs.Common.{◌++◌, ◌∷◌, [], refl, sym, ap, ap₂, ◌∙◌, subst, arith}
use Rattle.sf_sym.specs.declared.atom.Numbered.{Numbered}
use Rattle.sf_sym.specs.Checked.Stores.{Heap, IsKept, heap}
use Rattle.sf_sym.specs.Below.{IsBelow}
use Rattle.sf_sym.proofs.Bounds.{atom-found}
use Rattle.sf_sym.proofs.Stores.{store-handed}
use Rattle.sf_sym.proofs.store.Store.hand_over_atom.Goals as goal

pub returns-clause-kept : goal.returns-clause-kept
returns-clause-kept c =
    let s = c.args.self.now in
    let y : Numbered = record { number = c.args.a; atom = c.in-Some.atom } in
    let taken = c.push_reserved.ensures.items ∙ ap (λ xs. xs ++ y ∷ []) c.in_ok-reserve.ensures.items in
    subst (λ (h : Heap). IsKept h s.above s.index.roots s.index.cells s.index.marks)
    (sym (ap₂ (λ xs ys. record (heap s) { atoms = xs; taken = ys }) c.take_out.ensures.others taken))
    (store-handed (heap s) s.above s.index.roots s.index.cells s.index.marks c.requires.kept c.args.a c.in-Some.atom
    (sym c.in-Some.ensures.atom) y refl refl s.above (omega arith)
    (atom-found (IsBelow s.above) c.args.a s.atoms c.in-Some.atom c.requires.kept.bounded.atoms (sym c.in-Some.ensures.atom)))
