use Rattle.std.proofs.Common.{sym, subst, refl}
use Rattle.sf_base.specs.declared.value.Value.{Value}
use Rattle.sf_core.specs.Assertions.Sat.{Tree}
use Rattle.sf_heap.specs.Cells.{heap_of}
use Rattle.sf_witness.specs.Checked.Shapes.{HasPart}
use Rattle.sf_witness.proofs.Wishes.{tree-none, tree-term}
use Rattle.sf_witness.proofs.wanted.has_wanted_tree.Goals as goal

pub returns-in_default : goal.returns-in_default
returns-in_default c = (
  λ i. tree-none c.args.bindings.now c.args.left c.args.right c.args.root.now (heap_of c.args.heap.now)
      (sym c.in_default.ensures),
  λ w. refl,
)

pub returns : goal.returns
returns c =
    let both = tree-term c.args.bindings.now c.args.left c.args.right c.args.root.now c.in-Some.t
    (heap_of c.args.heap.now) (sym c.in-Some.ensures) in (
      λ i. both.0 (subst (λ (root : Value). HasPart (Tree c.args.left c.args.right root) (heap_of c.args.heap.now))
          c.value_at.ensures (c.in_ok-has.ensures.0 i)),
      λ w. c.in_ok-has.ensures.1 (subst (λ (root : Value). HasPart (Tree c.args.left c.args.right root)
          (heap_of c.args.heap.now)) (sym c.value_at.ensures) (both.1 w)),
    )
