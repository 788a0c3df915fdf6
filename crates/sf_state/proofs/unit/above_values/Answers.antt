use Rattle.sf_base.specs.declared.value.Value.TheVariants.{Nil as nil}
use Rattle.sf_state.specs.Checked.FirstUnit.{IsLocation}
use Rattle.sf_state.proofs.Raising.{bounds-one, raises-more, read-at}
use Rattle.sf_state.proofs.unit.above_values.Goals as goal

pub above_value-raised-requires : goal.above_value-raised-requires
above_value-raised-requires c =
    bounds-one IsLocation c.args.values.now c.loop-value.value-index _ c.requires c.loop-value-test.true
    (read-at c.args.values.now c.loop-value.value-index nil c.loop-value-test.true)

pub loop-value-preserved : goal.loop-value-preserved
loop-value-preserved c =
    raises-more IsLocation c.args.values.now c.loop-value.value-index _ c.args.unit c.loop-value.raised c.above_value-raised.result
    c.loop-value-test.true (read-at c.args.values.now c.loop-value.value-index nil c.loop-value-test.true) c.loop-value.invariant
    c.above_value-raised.ensures
