use Rattle.sf_rules.proofs.GoalShapes.{rows_keep_shape}
use Rattle.sf_rules.proofs.laws.rows_keep_shape.Goals as goal

pub returns : goal.returns
returns c = rows_keep_shape c.laws_below.ensures c.rows_have_laws.ensures
