use Rattle.std.proofs.Common.{◌≡◌, ◌<◌, ◌≤◌, ◌+◌, true, get_or, length, ap, inl, inr, arith}
use Rattle.std.proofs.lemmas.Bool.Decides.{leb_tells}
use Rattle.std.proofs.lemmas.List.{take_all}
use Rattle.sf_order.specs.Rank.{rank_in}
use Rattle.sf_order.specs.Checked.Ways.{IsNear}
use Rattle.sf_order.proofs.Found.{all-next, nothing}
use Rattle.sf_order.proofs.steps.longer.Goals as goal

pub loop-x-preserved : goal.loop-x-preserved
loop-x-preserved c =
    let e = get_or c.as_slice-x-items.result.now c.loop-x.x-index nothing in
    let near : IsNear c.args.steps.now e =
    elim (leb_tells (rank_in c.args.steps.now e.0) (rank_in c.args.steps.now e.1 + 1)) [
      | inl l ↦ l.1
      | inr l ↦
          let far : rank_in c.args.steps.now e.1 + 1 < rank_in c.args.steps.now e.0 = l.1 in
          let yes : c.is_longer.result ≡ true =
          c.is_longer.ensures.1 (omega (arith, far, c.of.ensures, c.of-in-loop-x.ensures)) in
          let no = c.if-is_longer.false in
          absurd (cc)
    ] in
    all-next (IsNear c.args.steps.now) c.args.pairs.now c.as_slice-x-items.result.now c.loop-x.x-index
    c.as_slice-x-items.ensures c.loop-x-test.true c.loop-x.invariant near

pub returns : goal.returns
returns c =
    let past : length c.args.pairs.now ≤ c.loop-x.x-index =
    omega (arith, c.loop-x-test.false, ap length c.as_slice-x-items.ensures) in
    rw (take_all c.loop-x.x-index c.args.pairs.now past) at c.loop-x.invariant
