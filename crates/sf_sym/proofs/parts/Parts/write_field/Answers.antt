use Rattle.std.proofs.Common.{◌∙◌, refl, slice_set, rules, ap}
use Rattle.std.proofs.lemmas.List.{drop-set-add}
use Rattle.sf_sym.specs.declared.atom.Atom.TheVariants.{Points}
use Rattle.sf_sym.specs.declared.atom.Numbered.{Numbered}
use Rattle.sf_sym.proofs.Indices.{lent_at, lent_no_cell, none_is_no_cell, written_at}
use Rattle.sf_sym.proofs.parts.Parts.write_field.Goals as goal

pub unreachable-requires : goal.unreachable-requires
unreachable-requires c =
    none_is_no_cell c.args.a c.args.self.now c.args.root (search rules) c.requires.cell

pub unreachable-requires-in-Ls : goal.unreachable-requires-in-Ls
unreachable-requires-in-Ls c =
    lent_no_cell c.args.a c.self.inside.left c.in-Some.i c.index_mut.result.now c.self.inside.places.items c.args.self.now
    c.args.root c.self.view_is c.in-Ls.is refl c.requires.cell (search rules) (search rules)

pub unreachable-requires-in-Tree : goal.unreachable-requires-in-Tree
unreachable-requires-in-Tree c =
    lent_no_cell c.args.a c.self.inside.left c.in-Some.i c.index_mut.result.now c.self.inside.places.items c.args.self.now
    c.args.root c.self.view_is c.in-Tree.is refl c.requires.cell (search rules) (search rules)

pub unreachable-requires-in-Dll : goal.unreachable-requires-in-Dll
unreachable-requires-in-Dll c =
    lent_no_cell c.args.a c.self.inside.left c.in-Some.i c.index_mut.result.now c.self.inside.places.items c.args.self.now
    c.args.root c.self.view_is c.in-Dll.is refl c.requires.cell (search rules) (search rules)

pub returns-clause-ok : goal.returns-clause-ok
returns-clause-ok c = λ fields cell.
    let inside = c.self.inside in
    let x = c.index_mut.result.now in
    let at = lent_at inside.left c.in-Some.i x inside.places.items c.args.self.now c.self.view_is (search rules) in
    let y : Numbered = record { number = x.number; atom = Points c.in-Points.field-0 c.put.new.self } in
    drop-set-add inside.left inside.places.items c.in-Some.i y ∙ ap (λ xs. slice_set xs c.in-Some.i y) c.self.view_is
    ∙ written_at c.args.a c.in-Some.i x c.args.self.now c.args.root c.in-Points.field-0 c.args.f c.args.u fields
    c.in-Points.fields c.put.new.self (search rules) at c.in-Points.is cell (search rules)
