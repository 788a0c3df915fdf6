use Rattle.sf_order.proofs.Reached.{circle-none}
use Rattle.sf_order.proofs.laws.no_circle_is_reached.Goals as goal

pub returns : goal.returns
returns c = circle-none
