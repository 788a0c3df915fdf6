use Rattle.sf_frame.proofs.Firsts.{held_first, held_more}
use Rattle.sf_frame.proofs.first.first_holders.Goals as goal

pub loop-r-init : goal.loop-r-init
loop-r-init c = held_first c.new-held.result c.new-held.ensures.empty

pub loop-r-preserved : goal.loop-r-preserved
loop-r-preserved c = held_more c.loop-r.held c.insert.new.self c.loop-r.r c.entry.result c.loop-r.invariant
    c.in_ok-insert.ensures.updates.0 c.entry.ensures
