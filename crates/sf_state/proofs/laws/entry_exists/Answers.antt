use Rattle.sf_state.proofs.Once.{entry_exists}
use Rattle.sf_state.proofs.laws.entry_exists.Goals as goal

pub returns : goal.returns
returns c = entry_exists c.sets_exist.ensures
