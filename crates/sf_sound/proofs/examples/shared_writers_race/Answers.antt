use Rattle.sf_sound.proofs.SharedWriters.{shared_writers_race}
use Rattle.sf_sound.proofs.examples.shared_writers_race.Goals as goal

pub returns : goal.returns
returns c = shared_writers_race c.ordering_exists.ensures
