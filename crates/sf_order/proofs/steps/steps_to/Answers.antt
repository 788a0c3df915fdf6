use Rattle.sf_order.proofs.Distances.{search-ends, search-goes_on}
use Rattle.sf_order.proofs.steps.steps_to.Goals as goal

pub loop-x-preserved : goal.loop-x-preserved
loop-x-preserved c =
    rw (c.put-in-Some.ensures, c.of-next.ensures)
    (search-goes_on c.args.n c.args.pairs.now c.requires.below c.args.v c.requires.there c.loop-x.steps c.in-Some.x
    c.in-Some.y c.in-Some.ensures c.loop-x.invariant)

pub returns : goal.returns
returns c =
    search-ends c.args.n c.args.pairs.now c.requires.below c.args.v c.requires.there c.loop-x.steps
    c.in_default.ensures c.loop-x.invariant
