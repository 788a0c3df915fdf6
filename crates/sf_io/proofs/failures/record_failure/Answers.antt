use Rattle.sf_io.proofs.FailedNames.{failures_of-append_same, failures_of-append_other, failures_of-append_le}
use Rattle.sf_io.proofs.failures.record_failure.Goals as goal

pub returns-clause-counted : goal.returns-clause-counted
returns-clause-counted c = rw c.push_reserved.ensures.items (failures_of-append_same _ _)

pub returns-clause-others : goal.returns-clause-others
returns-clause-others c = λ other differ. rw c.push_reserved.ensures.items (failures_of-append_other _ _ _ differ)

pub returns-clause-counts : goal.returns-clause-counts
returns-clause-counts c = λ any. rw c.push_reserved.ensures.items (failures_of-append_le _ _ _)
