use Rattle.sf_sound.proofs.SettingUp.{set_up_is_sound}
use Rattle.sf_sound.proofs.examples.set_up_is_sound.Goals as goal

pub returns : goal.returns
returns c = set_up_is_sound c.proofs_are_sound.ensures c.ordering_exists.ensures
