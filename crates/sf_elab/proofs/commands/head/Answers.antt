use Rattle.std.proofs.Common.{rules, append_assoc}
use Rattle.sf_elab.proofs.commands.head.Goals as goal

pub returns-clause-test : goal.returns-clause-test
returns-clause-test c = c.in_ok-test.ensures.same

pub returns-clause-invariant : goal.returns-clause-invariant
returns-clause-invariant c = c.in_ok-invariant.ensures.same

pub returns-clause-faults : goal.returns-clause-faults
returns-clause-faults c = search (rules, append_assoc)
