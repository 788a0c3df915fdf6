use Rattle.sf_cli.proofs.Endings.{ended-run}
use Rattle.sf_cli.proofs.laws.finished_runs_have_ended.Goals as goal

pub returns : goal.returns
returns c = ended-run
