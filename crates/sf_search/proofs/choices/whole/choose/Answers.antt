use Rattle.sf_search.proofs.Told.{ok_told}
use Rattle.sf_sym.specs.Goal.{goal_of}
use Rattle.sf_search.proofs.choices.whole.choose.Goals as goal

pub returns : goal.returns
returns c = ok_told (goal_of c.args.goal.now) c.choose_nested.result c.choose_nested.ensures
