use Rattle.sf_elab.proofs.Files.FirstFaults.{first_among}
use Rattle.sf_elab.proofs.laws.first_fault_is_first.Goals as goal

pub returns : goal.returns
returns c = first_among
