use Rattle.std.proofs.Common.{ap, sym, ◌∙◌}
use Rattle.sf_core.specs.Machine.Whole.{running}
use Rattle.sf_part.specs.Stands.{stand_in}
use Rattle.sf_part.proofs.stand.Stand.reserve.Goals as goal

pub returns-in-Runs-clause-same : goal.returns-in-Runs-clause-same
returns-in-Runs-clause-same c = ap running c.reserve.ensures.same ∙ sym (ap stand_in c.in-Runs.is)
