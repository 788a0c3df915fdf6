use Rattle.sf_state.proofs.Once.{start_is_unique}
use Rattle.sf_state.proofs.laws.start_is_unique.Goals as goal

pub returns : goal.returns
returns c = start_is_unique c.determined_has_one_footprint.ensures
