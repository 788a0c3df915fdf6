use Rattle.std.proofs.Common.{◌≡◌}
use Rattle.sf_sym.proofs.AboveSymbols.{above-more}
use Rattle.sf_sym.proofs.above.above_four.Goals as goal

pub returns-clause-first : goal.returns-clause-first
returns-clause-first c =
    above-more c.above_both-above.result _ (λ z. z ≡ c.args.x.now) c.above_both.ensures.least
    c.above_both-above.ensures.first

pub returns-clause-second : goal.returns-clause-second
returns-clause-second c =
    above-more c.above_both-above.result _ (λ z. z ≡ c.args.b.now) c.above_both.ensures.least
    c.above_both-above.ensures.second
