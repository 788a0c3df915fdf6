use Rattle.std.proofs.Common.{is_some, sym, ap, ◌∙◌}
use Rattle.sf_sym.specs.Cells.{cell_at}
use Rattle.sf_sym.specs.Checked.Empties.{empty_numbers}
use Rattle.sf_sym.proofs.Stores.{rows-written}
use Rattle.sf_sym.proofs.atoms.Atoms.write_field.Goals as goal

pub invariant_of-self-2 : goal.invariant_of-self-2
invariant_of-self-2 c =
    let parts = c.self.inside.parts in
    c.self.invariant
    ∙ sym (ap empty_numbers (rows-written parts c.write_field.new.self c.args.a c.args.root c.args.f c.args.u
    (ap (λ xs. is_some (cell_at xs c.args.a c.args.root)) c.self.view_is ∙ c.requires.cell)
    c.in_ok-write_field.ensures.ok))
