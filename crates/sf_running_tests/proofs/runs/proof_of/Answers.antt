use Rattle.std.proofs.Common.{refl}
use Rattle.sf_running_tests.proofs.Ordering.{is_ordering}
use Rattle.sf_running_tests.proofs.runs.proof_of.Goals as goal

pub verify-requires : goal.verify-requires
verify-requires c = (is_ordering, refl)

pub check-requires : goal.check-requires
check-requires c = (is_ordering, refl)
