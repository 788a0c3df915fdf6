use Rattle.std.proofs.Common.{◌≡◌, ◌∙◌, None, Some, sym, ap, rules}
use Rattle.sf_sym.specs.Checked.Indices.{index_from}
use Rattle.sf_sym.specs.declared.atom.Numbered.{Numbered}
use Rattle.sf_sym.proofs.Indices.{atom_found, no_atom}
use Rattle.sf_sym.proofs.parts.Parts.atom.Goals as goal

pub returns-in_err-i : goal.returns-in_err-i
returns-in_err-i c =
    let none : index_from 0 c.args.self.now c.args.a ≡ None = search rules in
    let gone = no_atom c.args.a 0 c.args.self.now none in
    search rules

pub returns : goal.returns
returns c =
    ap (λ (y : Numbered). Some y.atom) (sym c.index-parts-i.is)
    ∙ atom_found c.args.a c.in_ok-i.i c.index-parts-i.result c.args.self.now (search rules) (search rules)
