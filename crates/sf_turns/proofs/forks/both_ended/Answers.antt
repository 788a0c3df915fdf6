use Rattle.sf_turns.proofs.Parted.{both-ended}
use Rattle.sf_turns.proofs.forks.both_ended.Goals as goal

pub returns : goal.returns
returns c =
    let left = rw c.in-Some.is at c.in_ok-left.ensures in
    let right = rw c.in-Some-2.is at c.in_ok-right.ensures in
    both-ended c.args.p.now c.args.regions.now c.children_go_on.ensures c.args.parted c.in-Some.left
    c.in-Some-2.right left right
