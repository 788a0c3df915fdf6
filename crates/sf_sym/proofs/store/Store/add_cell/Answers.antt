use Rattle.std.proofs.Common.{◌≡◌, refl, sym, ap, ◌∙◌, subst}
use Rattle.sf_sym.specs.declared.atom.Atom.TheVariants.{Points}
use Rattle.sf_sym.specs.declared.atom.Numbered.{Numbered}
use Rattle.sf_sym.specs.Cells.{without}
use Rattle.sf_sym.specs.Checked.Stores.{Heap, heap}
use Rattle.sf_sym.specs.Numbers.{AreNumbered, numbers}
use Rattle.sf_sym.proofs.Stores.{without-last}
use Rattle.sf_sym.proofs.store.Store.add_cell.Goals as goal
use Rattle.sf_sym.proofs.store.Store.add_cell.Goals.{After-self-1}

-- what is known is as it was
as-before : (c : After-self-1) → record (heap c.remove_atom.new.self) { next_atom = c.args.self.now.next_atom } ≡ heap c.args.self.now
as-before c =
    let s = c.args.self.now in
    let n = s.next_atom in
    let x : Numbered = record { number = n; atom = Points c.args.root c.args.fields } in
    ap (λ (h : Heap). record h { next_atom = n })
    (c.remove_atom.ensures.others
    ∙ ap (λ (h : Heap). record h { atoms = without h.atoms n }) (c.in-Err.ensures.err ∙ c.in_ok-add_atom.ensures.ok))
    ∙ ap (λ xs. record (heap s) { atoms = xs }) (without-last n s.atoms x c.requires.kept.numbered.below refl)

pub returns-in-Err-clause-kept : goal.returns-in-Err-clause-kept
returns-in-Err-clause-kept c = record {
  numbered = subst (λ (h : Heap). AreNumbered (numbers h.atoms) (numbers h.taken) h.next_atom) (sym (as-before c))
      c.requires.kept.numbered;
  bounded = record {
    pairs = c.remove_atom.ensures.kept.bounded.pairs;
    atoms = c.remove_atom.ensures.kept.bounded.atoms;
    taken = c.remove_atom.ensures.kept.bounded.taken;
  };
  indexed = c.remove_atom.ensures.kept.indexed;
}

pub returns-in-Err-clause-err : goal.returns-in-Err-clause-err
returns-in-Err-clause-err c = as-before c
