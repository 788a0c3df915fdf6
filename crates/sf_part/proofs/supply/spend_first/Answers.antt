use Rattle.std.proofs.Common.{◌+◌, ◌-◌, ap, ◌∙◌, arith}
use Rattle.sf_core.specs.Machine.Whole.{numbers}
use Rattle.sf_part.specs.Checked.Ranges.{ranges_of}
use Rattle.sf_part.proofs.Ranges.{fit_last, numbers_less, numbers_over, numbers_snoc}
use Rattle.sf_part.proofs.supply.spend_first.Goals as goal

pub returns-then-units-gt1-clause-rest : goal.returns-then-units-gt1-clause-rest
returns-then-units-gt1-clause-rest c =
    ap (λ z. numbers (ranges_of z)) c.push_reserved.ensures.items
    ∙ numbers_snoc c.pop.new.self.items
    (record { first = c.in-Some.units.first + 1; count = c.in-Some.units.count - 1 })
    ∙ numbers_less c.args.ranges.now.items c.pop.new.self.items c.in-Some.units
    c.in-Some.ensures.items
    (fit_last _ _ _ c.in-Some.ensures.items c.requires.fit).0

pub returns-else-units-gt1-clause-rest : goal.returns-else-units-gt1-clause-rest
returns-else-units-gt1-clause-rest c =
    let fit = (fit_last _ _ _ c.in-Some.ensures.items c.requires.fit).0 in
    numbers_over c.args.ranges.now.items c.pop.new.self.items c.in-Some.units
    c.in-Some.ensures.items (omega arith)
