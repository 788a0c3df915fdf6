use Rattle.sf_part.specs.PartView.{part_of}
use Rattle.sf_turns.proofs.Parted.{join-gone}
use Rattle.sf_turns.proofs.forks.join_ended.Goals as goal

pub join-requires-clause-gone : goal.join-requires-clause-gone
join-requires-clause-gone c = (part_of c.requires.1.came.1, c.requires.1.gone)

pub returns : goal.returns
returns c =
    join-gone c.args.p.now c.args.regions.now c.going_composes.ensures c.going_keeps_running.ensures
    c.args.parted c.in_ok-joined.joined c.in_ok-joined.ensures.goes c.in_ok-joined.ensures.table
