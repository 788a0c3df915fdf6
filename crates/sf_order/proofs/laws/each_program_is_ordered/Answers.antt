use Rattle.sf_order.proofs.Closing.{each_program_is_ordered}
use Rattle.sf_order.proofs.laws.each_program_is_ordered.Goals as goal

pub returns : goal.returns
returns c = each_program_is_ordered
