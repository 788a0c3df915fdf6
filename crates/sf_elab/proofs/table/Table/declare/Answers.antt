use Rattle.std.proofs.Common.{◌≡◌, ◌∙◌, ap, sym, is_some, false}
use Rattle.sf_elab.specs.Names.Table.{find, declare}
use Rattle.sf_elab.proofs.Names.Tables.{named, declared_in}
use Rattle.sf_elab.proofs.table.Table.declare.Goals as goal

pub returns : goal.returns
returns g c =
    let absent : is_some (find c.args.name.now (named (λ k. k.items) c.self.inside.entries.entries)) ≡ false = ap (λ t. is_some (find c.args.name.now t)) c.self.view_is ∙ sym (ap is_some c.find.ensures) ∙ sym c.is_some.ensures ∙ c.if-is_some.false in
    declared_in (λ k. k.items) c.args.name.now c.self.inside.entries.entries c.insert.new.self.entries c.in_ok-from_slice.field-0 c.args.value c.in_ok-insert.ensures.entries c.in_ok-from_slice.ensures.items absent
    ∙ ap (declare c.args.name.now c.args.value) c.self.view_is
