use Rattle.std.proofs.Common.{rules, arith}
use Rattle.sf_region.proofs.Looking.{drains-word}
use Rattle.sf_region.proofs.steps.drain_word.Goals as goal

pub load-requires : goal.load-requires
load-requires c = (
  search rules,
  (let w = c.requires.wide in omega arith),
  drains-word c.part_laws.ensures _ _ _ c.args.seat.now.me c.requires.live,
)
