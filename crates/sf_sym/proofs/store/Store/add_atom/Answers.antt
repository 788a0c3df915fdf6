use Rattle.std.proofs.Common.{◌+◌, ◌++◌, refl, sym, ap, subst}
use Rattle.sf_sym.specs.declared.atom.Numbered.{Numbered}
use Rattle.sf_sym.specs.declared.outline.Row.{Row}
use Rattle.sf_sym.specs.Checked.Keeping.{Forgets, IsNoted, rows_of}
use Rattle.sf_sym.specs.Checked.Stores.{Heap, IsKept, heap}
use Rattle.sf_sym.proofs.Stores.{store-added, store-refused, store-undone}
use Rattle.sf_sym.proofs.store.Store.add_atom.Goals as goal

pub push-requires : goal.push-requires
push-requires c = c.requires.kept.numbered.below

pub returns-in_err-note-clause-kept : goal.returns-in_err-note-clause-kept
returns-in_err-note-clause-kept c =
    let s = c.args.self.now in
    let i = c.note.new.self in
    store-refused (heap s) s.above s.index.roots s.index.cells s.index.marks c.requires.kept i.roots i.cells i.marks
    c.in_err-note.ensures.err

pub returns-in-Err-clause-kept : goal.returns-in-Err-clause-kept
returns-in-Err-clause-kept c =
    let s = c.args.self.now in
    let i = c.note.new.self in
    let j = c.forget.new.self in
    let x : Numbered = record { number = s.next_atom; atom = c.args.atom } in
    let row = ap (λ o. record { number = s.next_atom; outline = o }) c.of-outline.ensures in
    let rows = rows_of (s.atoms ++ s.taken.items) in
    let noted = subst (λ (z : Row). IsNoted s.apart rows s.index.roots s.index.cells s.index.marks z i.roots i.cells i.marks)
    row (c.in_ok-note.ensures.ok s.apart rows (rows_of s.atoms) c.give_cell.ensures c.requires.kept.indexed) in
    let forgets = subst (λ (z : Row). Forgets z i.roots i.cells i.marks j.roots j.cells j.marks) row c.forget.ensures in
    subst (λ (h : Heap). IsKept h s.above j.roots j.cells j.marks)
    (sym (ap (λ xs. record (heap s) { atoms = xs }) c.in-Err.ensures.err))
    (store-undone (heap s) s.above s.index.roots s.index.cells s.index.marks c.requires.kept x refl i.roots i.cells i.marks noted
    j.roots j.cells j.marks forgets)

pub returns-clause-kept : goal.returns-clause-kept
returns-clause-kept c =
    let s = c.args.self.now in
    let i = c.note.new.self in
    let x : Numbered = record { number = s.next_atom; atom = c.args.atom } in
    let row = ap (λ o. record { number = s.next_atom; outline = o }) c.of-outline.ensures in
    let rows = rows_of (s.atoms ++ s.taken.items) in
    let noted = subst (λ (z : Row). IsNoted s.apart rows s.index.roots s.index.cells s.index.marks z i.roots i.cells i.marks)
    row (c.in_ok-note.ensures.ok s.apart rows (rows_of s.atoms) c.give_cell.ensures c.requires.kept.indexed) in
    subst (λ (h : Heap). IsKept h c.above_atom-above.result i.roots i.cells i.marks)
    (sym (ap (λ xs. record (heap s) { atoms = xs; next_atom = s.next_atom + 1 }) c.in_default.ensures.ok))
    (store-added (heap s) s.above s.index.roots s.index.cells s.index.marks c.requires.kept x refl i.roots i.cells i.marks noted
    c.above_atom-above.result c.above_atom-above.ensures.least c.above_atom-above.ensures.below)
