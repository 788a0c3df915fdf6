use Rattle.std.proofs.Common.{rules, arith}
use Rattle.sf_region.proofs.Asks.{notes-at}
use Rattle.sf_region.proofs.steps.note_word.Goals as goal

pub load-requires : goal.load-requires
load-requires g c = (
  search rules,
  (let w = c.requires.wide in omega arith),
  notes-at c.part_laws.ensures _ _ _ c.args.seat.now.me c.args.part.now g.N.Aim.parts c.requires.aim c.requires.live
      c.requires.near,
)
