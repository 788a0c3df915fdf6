use Rattle.sf_order.proofs.Closing.{resources_are_listed_once}
use Rattle.sf_order.proofs.laws.resources_are_listed_once.Goals as goal

pub returns : goal.returns
returns c = resources_are_listed_once
