use Rattle.sf_state.specs.Checked.FirstUnit.{IsInCell}
use Rattle.sf_state.proofs.Raising.{bounds-one, raises-more, read-at}
use Rattle.sf_state.proofs.unit.above_cells.Goals as goal

pub above_cell-raised-requires : goal.above_cell-raised-requires
above_cell-raised-requires c =
    bounds-one (IsInCell c.args.heap.now) c.args.at.now c.loop-location.location-index _ c.requires c.loop-location-test.true
    (read-at c.args.at.now c.loop-location.location-index 0 c.loop-location-test.true)

pub loop-location-preserved : goal.loop-location-preserved
loop-location-preserved c =
    raises-more (IsInCell c.args.heap.now) c.args.at.now c.loop-location.location-index _ c.args.unit c.loop-location.raised c.above_cell-raised.result
    c.loop-location-test.true (read-at c.args.at.now c.loop-location.location-index 0 c.loop-location-test.true) c.loop-location.invariant
    c.above_cell-raised.ensures
