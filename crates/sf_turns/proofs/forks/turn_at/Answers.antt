use Rattle.sf_turns.proofs.Parted.{entry-parted}
use Rattle.sf_turns.proofs.forks.turn_at.Goals as goal

pub returns : goal.returns
returns c =
    entry-parted c.args.at.p.now c.args.at.regions c.args.at.f c.args.at.parted c.in_ok-parted.parted
    c.requires c.in_ok-parted.ensures
