use Rattle.sf_calls.proofs.Changed.{changes_assigned}
use Rattle.sf_calls.proofs.laws.changes_are_assigned.Goals as goal

pub returns : goal.returns
returns c = changes_assigned
