use Rattle.sf_rules.proofs.GoalShapes.{first_goals_are_small}
use Rattle.sf_rules.proofs.laws.first_goals_are_small.Goals as goal

pub returns : goal.returns
returns c = first_goals_are_small c.held_resources_are_there.ensures
