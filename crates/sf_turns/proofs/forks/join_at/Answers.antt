use Rattle.sf_turns.proofs.Parted.{entry-joined}
use Rattle.sf_turns.proofs.forks.join_at.Goals as goal

pub returns : goal.returns
returns c =
    let joined = rw c.in-Some.is at c.in_ok-task.ensures in
    entry-joined c.args.at.p.now c.args.at.regions c.going_keeps_path.ensures c.args.at.f
    c.args.at.parted c.in-Some.task c.requires joined
