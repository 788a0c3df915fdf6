use Rattle.std.proofs.Common.{refl}
use Rattle.sf_base.proofs.MapSplits.{splits-comm}
use Rattle.sf_part.proofs.setup.give_next.Goals as goal

pub returns : goal.returns
returns c = record {
  resource = refl;
  stamp_is = refl;
  is_share = refl;
  heap = splits-comm c.part_off-heap.ensures.heaps;
  cells = c.part_off-heap.ensures.parts;
  slots = splits-comm c.cut.ensures;
  held = refl;
  at_is = c.part_off-heap.ensures.locations;
}
