use Rattle.std.proofs.Common.{◌≡◌}
use Rattle.sf_sym.proofs.AboveSymbols.{above-more}
use Rattle.sf_sym.proofs.above.above_both.Goals as goal

pub returns-clause-first : goal.returns-clause-first
returns-clause-first c =
    above-more c.above_operand-above.result _ (λ z. z ≡ c.args.x.now) c.above_operand.ensures.least
    c.above_operand-above.ensures.below
