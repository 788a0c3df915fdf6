use Rattle.sf_parse.proofs.Closing.{answer_is_unique}
use Rattle.sf_parse.proofs.laws.answer_is_unique.Goals as goal

pub returns : goal.returns
returns c = answer_is_unique
