use Rattle.std.proofs.Common.{subst, sym}
use Rattle.sf_turns.proofs.Parted.{parted-on}
use Rattle.sf_turns.specs.Checked.Kept.{parted}
use Rattle.sf_turns.specs.Checked.Parting.{HasParted}
use Rattle.sf_turns.specs.Checked.Seats.{Seen}
use Rattle.sf_parting_tests.proofs.meetings.both_beside.Goals as goal

pub returns : goal.returns
returns g c =
    let a = c.args.at.p.now in
    let t = c.args.at.regions in
    let k = c.requires.0 in
    let l = c.in_ok-left.left.task in
    let r = c.in_ok-left.right.task in
    let on = parted-on a t c.children_go_on.ensures k c.args.at.parted l r c.requires.2
    c.in_ok-left.ensures.left c.in_ok-left.ensures.right in
    let waits =
    subst (λ (z : Seen). HasParted a t k (parted z l r)) (sym c.into_task.ensures) on in
    let left =
    subst (λ (z : Seen). HasParted a t k (parted c.into_task.result z r))
    (sym c.into_task-2.ensures) waits in
    let right =
    subst (λ (z : Seen). HasParted a t k (parted c.into_task.result c.into_task-2.result z))
    (sym c.into_task-3.ensures) left in
    (k, c.requires.1, right)
