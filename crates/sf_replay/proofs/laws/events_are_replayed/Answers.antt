use Rattle.sf_replay.proofs.Answered.{events_are_replayed}
use Rattle.sf_replay.proofs.laws.events_are_replayed.Goals as goal

pub returns : goal.returns
returns c = events_are_replayed c.steps_are_reached.ensures
