use Rattle.std.proofs.Common.{◌≢◌, ◌+◌, arith}
use Rattle.sf_order.specs.Nests.{IsPair}
use Rattle.sf_order.specs.Rank.{rank_in}
use Rattle.sf_order.proofs.Rising.{rise-ends, rise-first, rise-goes_on, rise-high, rise-low, rise-second, rise-smaller, rise-starts}
use Rattle.sf_order.proofs.ranked.rank.Goals as goal

pub loop-r-init : goal.loop-r-init
loop-r-init c = rw c.in_ok-ranks.ensures (rise-starts (IsPair c.args.pairs.now) c.args.n)

pub of-next-requires : goal.of-next-requires
of-next-requires c =
    let within = rise-first c.args.n c.args.pairs.now c.requires c.loop-r.ranks c.loop-r.invariant c.in-Err.r c.in-Err.s
    c.in-Err.ensures in
    omega (arith, within, c.loop-r.invariant.each)

pub first_cycle-requires-clause-there : goal.first_cycle-requires-clause-there
first_cycle-requires-clause-there c =
    rise-high c.args.n c.args.pairs.now c.requires c.loop-r.ranks c.loop-r.invariant c.in-Err.r c.in-Err.s
    c.in-Err.ensures (omega (arith, c.of-next.ensures, c.if-next-n.true))

pub put-requires : goal.put-requires
put-requires c =
    let within = rise-second c.args.n c.args.pairs.now c.requires c.loop-r.ranks c.loop-r.invariant c.in-Err.r c.in-Err.s
    c.in-Err.ensures in
    omega (arith, within, c.loop-r.invariant.each)

pub loop-r-smaller : goal.loop-r-smaller
loop-r-smaller c =
    let low : rank_in c.loop-r.ranks c.in-Err.r + 1 ≢ c.args.n =
    λ e. c.if-next-n.false (omega (arith, e, c.of-next.ensures)) in
    rw (c.put.ensures, c.of-next.ensures)
    (rise-smaller c.args.n c.args.pairs.now c.requires c.loop-r.ranks c.loop-r.invariant c.in-Err.r c.in-Err.s
    c.in-Err.ensures low)

pub loop-r-preserved : goal.loop-r-preserved
loop-r-preserved c =
    let low : rank_in c.loop-r.ranks c.in-Err.r + 1 ≢ c.args.n =
    λ e. c.if-next-n.false (omega (arith, e, c.of-next.ensures)) in
    rw (c.put.ensures, c.of-next.ensures)
    (rise-goes_on c.args.n c.args.pairs.now c.requires c.loop-r.ranks c.loop-r.invariant c.in-Err.r c.in-Err.s
    c.in-Err.ensures low)

pub returns-clause-answer : goal.returns-clause-answer
returns-clause-answer c =
    rise-ends c.args.n c.args.pairs.now c.requires c.loop-r.ranks c.loop-r.invariant c.in_default.ensures

pub returns-clause-low : goal.returns-clause-low
returns-clause-low c = rise-low (IsPair c.args.pairs.now) c.args.n c.loop-r.ranks c.loop-r.invariant
