use Rattle.std.proofs.Common.{subst}
use Rattle.std.specs.FinMap.{get}
use Rattle.sf_base.specs.HeapStore.{Splits}
use Rattle.sf_heap.specs.Cells.{Cells}
use Rattle.sf_part.proofs.Regained.{back-parted}
use Rattle.sf_part.proofs.back.join_smaller.Goals as goal

pub returns-clause-both_returned : goal.returns-clause-both_returned
returns-clause-both_returned c =
    back-parted c.join.new.self c.args.large c.args.small c.part_off-small.result
    c.part_off-small.new.self c.in-Ok.at c.in_default-join.ensures.ok
    (subst (λ (z : Cells). Splits (get z) (get c.part_off-small.result)
    (get c.part_off-small.new.self)) c.in-Err-join.ensures.other_returned
    c.part_off-small.ensures.parts) c.in-Ok.ensures c.part_off-small.ensures.locations
