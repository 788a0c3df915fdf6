use Rattle.sf_sound.proofs.Pair.{pair_is_sound}
use Rattle.sf_sound.proofs.examples.pair_is_sound.Goals as goal

pub returns : goal.returns
returns c = pair_is_sound c.proofs_are_sound.ensures c.ordering_exists.ensures
