use Rattle.std.proofs.Common.{sym}
use Rattle.sf_part.proofs.Ranges.{numbers_one}
use Rattle.sf_part.proofs.supply.Supply.new.Goals as goal

pub invariant_of-result : goal.invariant_of-result
invariant_of-result c = rw (c.in_ok-push.ensures.items, c.new-ranges.ensures.items)
    (((c.requires.some, c.requires.fits), tt), sym (numbers_one c.args.first c.args.count))
