use Rattle.std.proofs.Common.{refl}
use Rattle.sf_goals.proofs.Ordering.{is_ordering}
use Rattle.sf_goals.proofs.walking.follow.Goals as goal

pub apply_row-requires : goal.apply_row-requires
apply_row-requires c = (is_ordering, refl)
