use Rattle.std.proofs.Common.{length}
use Rattle.sf_replay.proofs.Taking.{wide-taken}
use Rattle.sf_replay.proofs.reading.read_line.Goals as goal

pub returns-clause-wide : goal.returns-clause-wide
returns-clause-wide c = wide-taken (length c.args.p.now.fields.items) c.args.number c.take.result
    c.args.schedule.now.items c.take.new.schedule.items c.in_ok-said.said c.in_ok-said.ensures.wide c.take.ensures
