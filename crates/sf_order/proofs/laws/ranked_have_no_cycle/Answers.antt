use Rattle.sf_order.proofs.Closing.{ranked_have_no_cycle}
use Rattle.sf_order.proofs.laws.ranked_have_no_cycle.Goals as goal

pub returns : goal.returns
returns c = ranked_have_no_cycle
