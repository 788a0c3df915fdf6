use Rattle.sf_witness.proofs.OneText.{each_goal_has_a_text}
use Rattle.sf_witness.proofs.laws.each_goal_has_a_text.Goals as goal

pub returns : goal.returns
returns c = each_goal_has_a_text c.footprint_is_decided.ensures
