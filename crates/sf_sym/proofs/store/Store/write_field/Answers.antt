use Rattle.sf_sym.specs.Checked.Stores.{heap}
use Rattle.sf_sym.specs.Below.{IsBelow}
use Rattle.sf_sym.proofs.Bounds.{atoms-more, atoms-written}
use Rattle.sf_sym.proofs.NumberLists.{numbered-written}
use Rattle.sf_sym.proofs.Stores.{rows-written, store-like}
use Rattle.sf_sym.proofs.store.Store.write_field.Goals as goal

pub returns-clause-kept : goal.returns-clause-kept
returns-clause-kept c =
    let s = c.args.self.now in
    let new = c.write_field.new.self in
    let ok = c.in_ok-write_field.ensures.ok in
    store-like (heap s) s.above s.index.roots s.index.cells s.index.marks c.requires.kept new
    (numbered-written s.atoms s.taken.items new s.next_atom c.requires.kept.numbered c.args.a c.args.root c.args.f c.args.u
    c.requires.cell ok) (rows-written s.atoms new c.args.a c.args.root c.args.f c.args.u c.requires.cell ok)
    c.above_term-self.result c.above_term-self.ensures.least
    (atoms-written (IsBelow c.above_term-self.result) s.atoms new c.args.a c.args.root c.args.f c.args.u
    (atoms-more s.above c.above_term-self.result c.above_term-self.ensures.least s.atoms c.requires.kept.bounded.atoms)
    c.above_term-self.ensures.below c.requires.cell ok)
