use Rattle.std.proofs.Common.{ap, arith, get_or}
use Rattle.sf_sym.specs.Equalities.{numbered_with, put_for}
use Rattle.sf_sym.proofs.InPlace.{map_next}
use Rattle.sf_sym.proofs.replace.Replacement.in_atoms.Goals as goal

pub loop-a-preserved : goal.loop-a-preserved
loop-a-preserved c =
    map_next (numbered_with (put_for c.args.self.symbol c.args.self.by))
    c.args.atoms.now c.loop-a.atoms c.loop-a.a-index c.a-item.result _ (omega arith) (omega arith)
    c.loop-a.invariant
    (ap (λ x. record { number = (get_or c.loop-a.atoms c.loop-a.a-index c.a-item.result).number; atom = x }) c.in_atom.ensures)
