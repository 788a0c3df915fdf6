use Rattle.sf_search.proofs.GoalShapes.{goals_have_shape}
use Rattle.sf_search.proofs.laws.goals_have_shape.Goals as goal

pub returns : goal.returns
returns c = goals_have_shape c.goals_are_shaped.ensures c.first_goals_are_small.ensures
