use Rattle.sf_calls.specs.Checked.Lemmas.Least.{holds_within}
use Rattle.sf_calls.proofs.laws.held_resources_are_there.Goals as goal

pub returns : goal.returns
returns c = λ p formed f r held. holds_within p formed f r held
