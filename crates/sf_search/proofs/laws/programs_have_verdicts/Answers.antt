use Rattle.sf_search.proofs.Ending.{programs_have_verdicts}
use Rattle.sf_search.proofs.laws.programs_have_verdicts.Goals as goal

pub returns : goal.returns
returns c = programs_have_verdicts c.goals_have_shape.ensures
