use Rattle.sf_rules.proofs.GoalShapes.{first_goals_are_shaped}
use Rattle.sf_rules.proofs.laws.first_goals_are_shaped.Goals as goal

pub returns : goal.returns
returns c = first_goals_are_shaped c.laws_below.ensures
