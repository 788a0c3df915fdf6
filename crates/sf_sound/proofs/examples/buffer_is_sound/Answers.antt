use Rattle.sf_sound.proofs.Buffer.{buffer_is_sound}
use Rattle.sf_sound.proofs.examples.buffer_is_sound.Goals as goal

pub returns : goal.returns
returns c = buffer_is_sound c.proofs_are_sound.ensures c.ordering_exists.ensures
