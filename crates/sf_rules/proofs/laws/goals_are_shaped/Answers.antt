use Rattle.sf_rules.proofs.GoalShapes.{goals_are_shaped}
use Rattle.sf_rules.proofs.laws.goals_are_shaped.Goals as goal

pub returns : goal.returns
returns c = goals_are_shaped c.first_goals_are_shaped.ensures c.rows_keep_shape.ensures
