use Rattle.std.proofs.Common.{arith}
use Rattle.sf_region.proofs.Asks.{buries-at}
use Rattle.sf_region.proofs.steps.bury_word.Goals as goal

pub load_new_seat-requires : goal.load_new_seat-requires
load_new_seat-requires g c = (
  (let w = c.requires.wide in omega arith),
  buries-at _ _ c.args.seat.now.me.0 g.N.Sight.views c.requires.sight,
)
