use Rattle.std.proofs.Common.{arith, refl}
use Rattle.sf_goals.proofs.Ordering.{is_ordering}
use Rattle.sf_goals.proofs.walking.first.Goals as goal

pub first_goal-requires : goal.first_goal-requires
first_goal-requires c = (is_ordering, (refl, omega (arith, c.if-f-len.false, c.len.ensures)))
