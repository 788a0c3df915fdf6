use Rattle.sf_elab.proofs.Files.FormedPrograms.{program_formed}
use Rattle.sf_elab.proofs.laws.elaborated_is_formed.Goals as goal

pub returns : goal.returns
returns c = program_formed
