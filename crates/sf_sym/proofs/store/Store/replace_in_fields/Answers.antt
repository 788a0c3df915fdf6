use Rattle.std.proofs.Common.{◌||◌, map, sym, ap, ap₂, ◌∙◌}
use Rattle.std.specs.List.{list_any}
use Rattle.std.proofs.lemmas.Bool.{or_parts}
use Rattle.sf_sym.specs.declared.term.Term.TheVariants.{Sym}
use Rattle.sf_sym.specs.Checked.Rows.{has_term}
use Rattle.sf_sym.specs.Checked.Stores.{heap}
use Rattle.sf_sym.specs.Equalities.{numbered_with, put_for}
use Rattle.sf_sym.specs.Tests.{same_term}
use Rattle.sf_sym.proofs.Stores.{pairs-absent, store-inside}
use Rattle.sf_sym.proofs.store.Store.replace_in_fields.Goals as goal

pub replace_in_fields-requires : goal.replace_in_fields-requires
replace_in_fields-requires c =
    let s = c.args.self.now in
    let n = c.args.r.symbol in
    let ps = list_any (λ p. same_term p.0 (Sym n) || same_term p.1 (Sym n)) s.apart in
    let xs = list_any (λ a. has_term (Sym n) a.atom) s.atoms in
    let ys = list_any (λ a. has_term (Sym n) a.atom) s.taken.items in
    (or_parts ps xs ((or_parts (ps || xs) ys c.requires.inside).0)).1

pub returns-clause-kept : goal.returns-clause-kept
returns-clause-kept c =
    let s = c.args.self.now in
    let to = put_for c.args.r.symbol c.args.r.by in
    let taken = c.replace_in_taken.ensures in
    store-inside (heap s) s.above s.index.roots s.index.cells s.index.marks c.requires.kept c.args.r.symbol c.args.r.by
    c.requires.inside c.above_term-self.result c.above_term-self.ensures.least c.above_term-self.ensures.below c.replace_in_fields.new.self c.replace_in_taken.new.taken.items
    c.replace_in_fields.ensures taken

pub returns-clause-heap : goal.returns-clause-heap
returns-clause-heap c =
    let s = c.args.self.now in
    let n = c.args.r.symbol in
    let to = put_for n c.args.r.by in
    let taken = c.replace_in_taken.ensures in
    let ps = list_any (λ p. same_term p.0 (Sym n) || same_term p.1 (Sym n)) s.apart in
    let xs = list_any (λ a. has_term (Sym n) a.atom) s.atoms in
    let ys = list_any (λ a. has_term (Sym n) a.atom) s.taken.items in
    ap₂ (λ es zs. record (heap s) { atoms = es; taken = zs }) c.replace_in_fields.ensures taken
    ∙ ap (λ qs. record (heap s) {
      apart = qs;
      atoms = map (numbered_with to) s.atoms;
      taken = map (numbered_with to) s.taken.items;
    }) (sym (pairs-absent n c.args.r.by s.apart ((or_parts ps xs ((or_parts (ps || xs) ys c.requires.inside).0)).0)))
