use Rattle.sf_sound.proofs.Writers.{writers_have_no_proof}
use Rattle.sf_sound.proofs.examples.writers_have_no_proof.Goals as goal

pub returns : goal.returns
returns c = writers_have_no_proof c.proofs_are_sound.ensures c.ordering_exists.ensures c.sets_exist.ensures
