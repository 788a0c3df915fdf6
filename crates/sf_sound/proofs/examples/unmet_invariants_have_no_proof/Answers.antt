use Rattle.sf_sound.proofs.SettingUp.{unmet_invariants_have_no_proof}
use Rattle.sf_sound.proofs.examples.unmet_invariants_have_no_proof.Goals as goal

pub returns : goal.returns
returns c =
    unmet_invariants_have_no_proof c.proofs_are_sound.ensures c.ordering_exists.ensures c.sets_exist.ensures
