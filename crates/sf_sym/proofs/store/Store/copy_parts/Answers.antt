use Rattle.std.proofs.Common.{◌≡◌, ◌++◌, map, ap, ap₂, ◌∙◌, subst}
use Rattle.sf_sym.specs.declared.term.Term.TheVariants.{Sym}
use Rattle.sf_sym.specs.Checked.Keeping.{rows_of}
use Rattle.sf_sym.specs.Checked.Rows.{is_marked}
use Rattle.sf_sym.specs.Checked.Stores.{Heap, IsMade, heap}
use Rattle.sf_sym.specs.Equalities.{numbered_with, put_for}
use Rattle.sf_sym.proofs.Stores.{store-copied}
use Rattle.sf_sym.proofs.store.Store.copy_parts.Goals as goal

pub returns-clause-kept : goal.returns-clause-kept
returns-clause-kept c =
    let s = c.args.self.now in
    let i = c.in_ok-index.index in
    let k : Heap = record {
      apart = c.args.apart;
      atoms = c.in_ok-atoms.atoms;
      taken = c.in_ok-taken.taken.items;
      next_atom = s.next_atom;
    } in
    let taken = c.in_ok-taken.ensures ∙ c.deref.ensures.value in
    let same : k ≡ heap s = ap₂ (λ ps xs. record k { apart = ps; atoms = xs }) c.requires.apart c.in_ok-atoms.ensures
    ∙ ap (λ ys. record (heap s) { taken = ys }) taken in
    store-copied (heap s) s.above 0 s.index.roots s.index.cells s.index.marks c.requires.kept k same i.roots i.cells
    i.marks
    (subst (λ xs. IsMade k.apart (rows_of (map (numbered_with (put_for 0 (Sym 0))) xs)) i.roots i.cells)
    (ap₂ (λ xs ys. xs ++ ys) c.as_slice.ensures c.deref-2.ensures.value) c.in_ok-index.ensures.made) (λ r. ap (λ m. is_marked m r) c.in_ok-index.ensures.marks ∙ c.in_ok-marks.ensures r)
