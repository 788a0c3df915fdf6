use Rattle.std.proofs.Common.{length, map, ap, ◌∙◌, arith}
use Rattle.sf_sym.specs.Equalities.{numbered_with, put_for}
use Rattle.sf_sym.proofs.InPlace.{vec-whole}
use Rattle.sf_sym.proofs.store.replace_in_taken.Goals as goal

pub returns : goal.returns
returns c =
    vec-whole c.args.taken.now c.in_atoms.new.atoms
    (omega (arith, c.in_atoms.auto.atoms, ap length c.deref_mut.ensures.value))
    ∙ c.in_atoms.ensures
    ∙ ap (map (numbered_with (put_for c.args.r.symbol c.args.r.by))) c.deref_mut.ensures.value
