use Rattle.sf_elab.proofs.Bodies.PrimedValues.{primed_values_are_set}
use Rattle.sf_elab.proofs.laws.primed_values_are_set.Goals as goal

pub returns : goal.returns
returns c = primed_values_are_set
