use Rattle.std.proofs.Common.{subst, sym, Global, Vec}
use Rattle.sf_base.specs.declared.value.Value.{Value}
use Rattle.sf_state.specs.Checked.FirstUnit.{AreInBounds, IsValueIn, Raises}
use Rattle.sf_state.proofs.Raising.{bounds-one, raises-more}
use Rattle.sf_state.proofs.unit.above_shared.Goals as goal

pub above_values-raised-requires : goal.above_values-raised-requires
above_values-raised-requires c =
    subst (λ vs. AreInBounds (IsValueIn vs)) (sym c.deref.ensures.value)
    (bounds-one (λ (vs : Vec Value Global). IsValueIn vs.items) c.args.shared.now c.loop-values.values-index c.values-item.result c.requires
    c.loop-values-test.true c.values-item.is)

pub loop-values-preserved : goal.loop-values-preserved
loop-values-preserved c =
    raises-more (λ (vs : Vec Value Global). IsValueIn vs.items) c.args.shared.now c.loop-values.values-index c.values-item.result c.args.unit
    c.loop-values.raised c.above_values-raised.result c.loop-values-test.true c.values-item.is c.loop-values.invariant
    (subst (λ vs. Raises (IsValueIn vs) c.loop-values.raised c.above_values-raised.result) c.deref.ensures.value
    c.above_values-raised.ensures)
