use Rattle.std.proofs.Common.{◌∙◌, ap}
use Rattle.sf_elab.specs.Names.Table.{find}
use Rattle.sf_elab.proofs.Names.Tables.{found_by}
use Rattle.sf_elab.proofs.table.Table.find.Goals as goal

pub returns : goal.returns
returns g c = c.copied.ensures ∙ c.get.ensures.value ∙ found_by (λ k. k.items) c.args.name.now c.self.inside.entries.entries ∙ ap (find c.args.name.now) c.self.view_is
