use Rattle.sf_turns.proofs.Seats.{going-entry}
use Rattle.sf_turns.proofs.turns.first_other.Goals as goal

pub returns : goal.returns
returns c =
    going-entry c.args.at.p.now c.args.at.regions c.going_keeps_path.ensures c.args.at.f
    c.args.at.task c.in_ok-task.task c.requires c.in_ok-task.ensures
