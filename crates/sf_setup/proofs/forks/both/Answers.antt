use Rattle.std.proofs.Common.{inr}
use Rattle.sf_setup.proofs.forks.both.Goals as goal

pub returns-in-Err-right-clause-stops : goal.returns-in-Err-right-clause-stops
returns-in-Err-right-clause-stops c = inr (c.in-Ok.one, c.in-Ok.is, c.in-Err-right.is)
