use Rattle.sf_search.proofs.GoalShapes.{arranged_is_set_up}
use Rattle.sf_search.proofs.laws.arranged_is_set_up.Goals as goal

pub returns : goal.returns
returns c = arranged_is_set_up c.conditions_from_truncation.ensures c.arranged_has_setting.ensures
