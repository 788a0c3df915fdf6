use Rattle.sf_sym.specs.declared.atom.Atom.TheVariants.{Points}
use Rattle.sf_sym.proofs.Indices.{atom_of_cell}
use Rattle.sf_sym.proofs.NumberLists.{cell_is_atom}
use Rattle.sf_sym.proofs.state.State.hand_over.Goals as goal

pub hand_over_atom-requires : goal.hand_over_atom-requires
hand_over_atom-requires c = cell_is_atom c.args.a c.args.self.now.atoms c.args.root c.requires

pub returns-clause-ok : goal.returns-clause-ok
returns-clause-ok c = λ fields cell.
    c.in_ok-hand_over_atom.ensures.ok (Points c.args.root fields)
    (atom_of_cell c.args.a c.args.self.now.atoms c.args.root fields cell)
