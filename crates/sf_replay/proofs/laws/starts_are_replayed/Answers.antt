use Rattle.sf_replay.proofs.Answered.{starts_are_replayed}
use Rattle.sf_replay.proofs.laws.starts_are_replayed.Goals as goal

pub returns : goal.returns
returns c = starts_are_replayed c.starts_are_reached.ensures c.steps_are_reached.ensures
