use Rattle.std.proofs.Common.{rules, arith}
use Rattle.sf_region.proofs.Asks.{forks-at}
use Rattle.sf_region.proofs.steps.fork_word.Goals as goal

pub load-requires : goal.load-requires
load-requires g c = (
  search rules,
  (let w = c.requires.wide in omega arith),
  forks-at c.part_laws.ensures _ _ _ c.args.seat.now.me c.args.part.now c.args.left.now c.args.right.now
      g.N.Aim.parts c.requires.aim c.requires.live c.requires.forks,
)
