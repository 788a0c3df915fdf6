use Rattle.std.proofs.Common.{◌≡◌, None, Some, rules, sym}
use Rattle.sf_sym.specs.Checked.Indices.{index_from}
use Rattle.sf_sym.proofs.Indices.{atom_found, is_at, no_atom, nothing_without}
use Rattle.sf_sym.proofs.parts.Parts.take_out.Goals as goal

pub returns-in_err-i-clause-atom : goal.returns-in_err-i-clause-atom
returns-in_err-i-clause-atom c =
    let none : index_from 0 c.args.self.now c.args.a ≡ None = search rules in
    let gone = no_atom c.args.a 0 c.args.self.now none in
    search rules

pub returns-in_err-i-clause-others : goal.returns-in_err-i-clause-others
returns-in_err-i-clause-others c =
    let none : index_from 0 c.args.self.now c.args.a ≡ None = search rules in
    sym (nothing_without c.args.a 0 c.args.self.now none)

pub returns-clause-atom : goal.returns-clause-atom
returns-clause-atom c =
    atom_found c.args.a c.in_ok-i.i c.remove-atom.result c.args.self.now (search rules) (search rules)

pub returns-clause-others : goal.returns-clause-others
returns-clause-others c =
    let found : index_from 0 c.args.self.now c.args.a ≡ Some c.in_ok-i.i = search rules in
    let at = is_at c.args.a c.in_ok-i.i c.args.self.now found in
    let gone = at.removed in
    search rules
