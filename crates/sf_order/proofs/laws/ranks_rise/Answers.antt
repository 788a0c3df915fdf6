use Rattle.sf_order.proofs.Closing.{ranks_rise}
use Rattle.sf_order.proofs.laws.ranks_rise.Goals as goal

pub returns : goal.returns
returns c = ranks_rise
