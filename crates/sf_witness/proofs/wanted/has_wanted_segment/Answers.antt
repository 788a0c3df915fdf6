use Rattle.std.proofs.Common.{sym, subst₂, refl}
use Rattle.sf_base.specs.declared.value.Value.{Value}
use Rattle.sf_core.specs.Assertions.Sat.{Seg}
use Rattle.sf_heap.specs.Cells.{heap_of}
use Rattle.sf_witness.specs.Checked.Shapes.{HasPart}
use Rattle.sf_witness.proofs.Wishes.{equal-first, equal-second, segment-both, segment-equal}
use Rattle.sf_witness.proofs.wanted.has_wanted_segment.Goals as goal

pub returns-in_default : goal.returns-in_default
returns-in_default c = (
  λ i. segment-equal c.args.bindings.now c.args.next c.args.from.now c.args.to.now (heap_of c.args.heap.now)
      (equal-first c.args.bindings.now c.args.from.now c.args.to.now (sym c.in_default.ensures)),
  λ w. refl,
)

pub returns-in_default-term_of : goal.returns-in_default-term_of
returns-in_default-term_of c = (
  λ i. segment-equal c.args.bindings.now c.args.next c.args.from.now c.args.to.now (heap_of c.args.heap.now)
      (equal-second c.args.bindings.now c.args.from.now c.args.to.now (sym c.in_default-term_of.ensures)),
  λ w. refl,
)

pub returns : goal.returns
returns c =
    let both = segment-both c.args.bindings.now c.args.next c.args.from.now c.args.to.now c.in-Some.t
    c.in-Some-term_of.u (heap_of c.args.heap.now) (sym c.in-Some.ensures) (sym c.in-Some-term_of.ensures) in (
      λ i. both.0 (subst₂ (λ (to from : Value). HasPart (Seg c.args.next to from) (heap_of c.args.heap.now))
          c.value_at-2.ensures c.value_at.ensures (c.in_ok-has.ensures.0 i)),
      λ w. c.in_ok-has.ensures.1 (subst₂ (λ (to from : Value). HasPart (Seg c.args.next to from) (heap_of c.args.heap.now))
          (sym c.value_at-2.ensures) (sym c.value_at.ensures) (both.1 w)),
    )
