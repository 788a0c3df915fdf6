use Rattle.sf_words.proofs.Spelled.{each_order_is_spelled}
use Rattle.sf_words.proofs.laws.each_order_is_spelled.Goals as goal

pub returns : goal.returns
returns c = each_order_is_spelled
