use Rattle.sf_turns.proofs.Parted.{fork-parted}
use Rattle.sf_turns.proofs.forks.fork.Goals as goal

pub returns-in-Ok : goal.returns-in-Ok
returns-in-Ok c =
    let e = c.in-Ok.ensures in
    fork-parted c.args.p.now c.args.regions.now c.args.task c.in_ok-task.task c.in-Ok.waits
    c.in-Ok.left c.in-Ok.right e.lends.0 c.in_ok-task.ensures.gone e.lends.1 e.gone e.tables e.begun
    e.rests.0
