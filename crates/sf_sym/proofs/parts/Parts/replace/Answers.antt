use Rattle.std.proofs.Common.{length, drop, map, ap, ◌∙◌, arith}
use Rattle.std.proofs.lemmas.List.{drop-map}
use Rattle.sf_sym.specs.Equalities.{numbered_with, put_for}
use Rattle.sf_sym.proofs.InPlace.{vec-whole}
use Rattle.sf_sym.proofs.parts.Parts.replace.Goals as goal

pub returns : goal.returns
returns c =
    let inside = c.self.inside in
    let to = numbered_with (put_for c.args.r.symbol c.args.r.by) in
    let places = vec-whole inside.places c.in_atoms.new.atoms
    (omega (arith, c.in_atoms.auto.atoms, ap length c.deref_mut.ensures.value))
    ∙ c.in_atoms.ensures ∙ ap (map to) c.deref_mut.ensures.value in
    ap (drop inside.left) places ∙ drop-map to inside.left inside.places.items ∙ ap (map to) c.self.view_is
