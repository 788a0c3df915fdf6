use Rattle.std.proofs.Common.{◌∙◌, sym}
use Rattle.sf_sym.proofs.LowestRows.{settled}
use Rattle.sf_sym.proofs.store.Store.settle_at.Goals as goal

pub returns-clause-kept : goal.returns-clause-kept
returns-clause-kept c = record {
  numbered = c.requires.numbered;
  bounded = c.requires.bounded;
  indexed = settled c.args.self.now c.requires c.in-Some.field-0.now (sym c.is_found.ensures ∙ c.if-is_found.false)
      c.remove.new.self c.remove.ensures;
}
