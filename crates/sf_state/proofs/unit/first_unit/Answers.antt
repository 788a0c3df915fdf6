use Rattle.std.proofs.Common.{subst, sym, Global, Vec}
use Rattle.sf_base.specs.declared.value.Value.{Value}
use Rattle.sf_state.specs.Checked.FirstUnit.{AreInBounds, IsInCell, IsOfOne, IsValueIn, Raises}
use Rattle.sf_state.proofs.Mentions.{mentioned-cells, mentioned-own, mentioned-shared, unit-first}
use Rattle.sf_state.proofs.unit.first_unit.Goals as goal

pub above_values-own-requires : goal.above_values-own-requires
above_values-own-requires c = subst (λ vs. AreInBounds (IsValueIn vs)) (sym c.deref.ensures.value)
    (λ l v. c.requires.in_bounds l (mentioned-own c.args.vars.now c.args.heap.now l v))

pub above_shared-shared-requires : goal.above_shared-shared-requires
above_shared-shared-requires c =
    subst (λ lists. AreInBounds (IsOfOne (λ (vs : Vec Value Global). IsValueIn vs.items) lists))
    (sym c.deref-2.ensures.value)
    (λ l v. c.requires.in_bounds l (mentioned-shared c.args.vars.now c.args.heap.now l v))

pub above_cells-requires : goal.above_cells-requires
above_cells-requires c = subst (λ at. AreInBounds (IsOfOne (IsInCell c.args.heap.now) at)) (sym c.as_slice.ensures.value)
    (λ l m. c.requires.in_bounds l
    (mentioned-cells c.args.vars.now c.args.heap.now c.args.at.now l c.requires.all m))

pub returns : goal.returns
returns c =
    unit-first c.args.vars.now c.args.heap.now c.args.at.now c.above_values-own.result c.above_shared-shared.result
    c.above_cells.result c.requires.all c.requires.in_bounds
    (subst (λ vs. Raises (IsValueIn vs) 1 c.above_values-own.result) c.deref.ensures.value c.above_values-own.ensures)
    (subst (λ lists. Raises (IsOfOne (λ (vs : Vec Value Global). IsValueIn vs.items) lists) c.above_values-own.result
    c.above_shared-shared.result) c.deref-2.ensures.value c.above_shared-shared.ensures)
    (subst (λ at. Raises (IsOfOne (IsInCell c.args.heap.now) at) c.above_shared-shared.result c.above_cells.result)
    c.as_slice.ensures.value c.above_cells.ensures)
