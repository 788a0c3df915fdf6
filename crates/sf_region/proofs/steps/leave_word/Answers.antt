use Rattle.std.proofs.Common.{rules, arith}
use Rattle.sf_region.proofs.Asks.{leaves-at}
use Rattle.sf_region.proofs.steps.leave_word.Goals as goal

pub store-requires : goal.store-requires
store-requires g c = (
  search rules,
  (let w = c.requires.wide in let i = c.requires.index in omega arith),
  leaves-at c.part_laws.ensures _ _ _ c.args.seat.now.me c.args.part.now g.N.Aim.parts c.args.r _ (omega arith)
      c.requires.aim c.requires.live c.requires.near,
)
