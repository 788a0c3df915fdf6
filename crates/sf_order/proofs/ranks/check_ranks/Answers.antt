use Rattle.std.proofs.Common.{◌≤◌, get_or, length, ap, arith}
use Rattle.std.proofs.lemmas.List.{take_all}
use Rattle.sf_order.specs.Rank.{Rises}
use Rattle.sf_order.proofs.Found.{all-next, nothing}
use Rattle.sf_order.proofs.ranks.check_ranks.Goals as goal

pub loop-r-preserved : goal.loop-r-preserved
loop-r-preserved c =
    let e = get_or c.as_slice-r-items.result.now c.loop-r.r-index nothing in
    let rises : Rises c.args.ranks.now e = omega
    (arith, c.if-of.false, c.of.ensures, c.of-in-loop-r.ensures) in
    all-next (Rises c.args.ranks.now) c.args.pairs.now c.as_slice-r-items.result.now c.loop-r.r-index
    c.as_slice-r-items.ensures c.loop-r-test.true c.loop-r.invariant rises

pub returns : goal.returns
returns c =
    let past : length c.args.pairs.now ≤ c.loop-r.r-index =
    omega (arith, c.loop-r-test.false, ap length c.as_slice-r-items.ensures) in
    rw (take_all c.loop-r.r-index c.args.pairs.now past) at c.loop-r.invariant
