use Rattle.std.proofs.Common.{subst, sym}
use Rattle.sf_turns.proofs.Seats.{going-entry}
use Rattle.sf_turns.specs.Checked.Seats.{IsEntryAt, Seen}
use Rattle.sf_turns.proofs.orders.run_in_order.Goals as goal

pub closed-requires : goal.closed-requires
closed-requires c =
    let gone = rw c.in-Some.is at c.in_ok-whole.ensures in
    subst (λ (z : Seen). IsEntryAt c.args.at.p.now c.args.at.f c.args.at.regions z)
    (sym c.into_task.ensures)
    (going-entry c.args.at.p.now c.args.at.regions c.going_keeps_path.ensures c.args.at.f
    c.args.at.task c.in-Some.whole.task.task c.requires gone)
