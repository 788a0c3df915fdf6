use Rattle.sf_replay.proofs.Once.{events_are_replayed_once}
use Rattle.sf_replay.proofs.laws.events_are_replayed_once.Goals as goal

pub returns : goal.returns
returns c = events_are_replayed_once c.answers_are_exclusive.ensures c.refused_events_do_not_step.ensures
