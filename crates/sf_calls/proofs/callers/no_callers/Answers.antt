use Rattle.sf_calls.proofs.CallGraph.{no_caller}
use Rattle.sf_calls.proofs.callers.no_callers.Goals as goal

pub returns-clause-none : goal.returns-clause-none
returns-clause-none c = no_caller c.loop.callers.items c.loop.invariant.empty
