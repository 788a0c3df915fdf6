use Rattle.std.proofs.Common.{◌∙◌, ap, sym, take}
use Rattle.std.proofs.lemmas.List.{take-map}
use Rattle.sf_elab.proofs.Names.Tables.{named}
use Rattle.sf_elab.proofs.table.Table.truncate.Goals as goal

pub returns : goal.returns
returns g c = ap (named (λ k. k.items)) c.truncate.ensures.entries ∙ sym (take-map (λ e. (e.0.items, e.1)) c.args.count c.self.inside.entries.entries) ∙ ap (take c.args.count) c.self.view_is
