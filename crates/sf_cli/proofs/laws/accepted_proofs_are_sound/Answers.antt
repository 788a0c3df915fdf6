use Rattle.sf_cli.proofs.Accepted.{accepted-proof}
use Rattle.sf_cli.proofs.laws.accepted_proofs_are_sound.Goals as goal

pub returns : goal.returns
returns c = accepted-proof c.each_file_is_shallow.ensures c.elaborated_is_formed.ensures
    c.proofs_are_sound.ensures
