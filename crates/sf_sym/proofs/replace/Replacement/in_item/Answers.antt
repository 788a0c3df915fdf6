use Rattle.std.proofs.Common.{sym, ap, ◌∙◌, map}
use Rattle.sf_sym.specs.Equalities.{item_with, put_for}
use Rattle.sf_sym.specs.Goal.{items_of}
use Rattle.sf_sym.proofs.Replaced.{run-same}
use Rattle.sf_sym.proofs.replace.Replacement.in_item.Goals as goal

pub returns-in-Run : goal.returns-in-Run
returns-in-Run c =
    let to = put_for c.args.self.symbol c.args.self.by in
    ap items_of c.in-Run.is ∙ run-same to c.in-Run.field-0.now
    ∙ sym (ap (λ item. map (item_with to) (items_of item)) c.in-Run.is)
