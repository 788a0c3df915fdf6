use Rattle.std.proofs.Common.{◌∙◌, ◌++◌, ap}
use Rattle.sf_base.proofs.Lists.{append-two, append-three}
use Rattle.sf_base.proofs.Zips.{zip-more}
use Rattle.sf_core.specs.Program.View.{level_of}
use Rattle.sf_precise.specs.Checked.Lemmas.Branches.{branch-ordered, branch-stuck, choice-prepared, made_of}
use Rattle.sf_precise.proofs.Outers.{level-outer}
use Rattle.sf_precise.proofs.Views.{view-if, view-level, view-points, view-doubly, view-segment}
use Rattle.sf_precise.proofs.ordering.+levels.Goals as goal

pub order_branch-returns-in-Ok-clause-order : goal.order_branch-returns-in-Ok-clause-order
order_branch-returns-in-Ok-clause-order t c =
    branch-ordered _ (level_of c.args.branch.now) (level_of c.in-Ok.level)
    (ap made_of (view-level c.args.branch.now)) c.in-Ok.ensures.ordered

pub
    order_branch-returns-in-Err-Undetermined-clause-order :
    goal.order_branch-returns-in-Err-Undetermined-clause-order
order_branch-returns-in-Err-Undetermined-clause-order t c =
    branch-stuck _ (level_of c.args.branch.now) c.in-Err-Undetermined.field-0-0
    (ap made_of (view-level c.args.branch.now))
    (rw c.in-Err-Undetermined.field-0-is at c.in-Err-Undetermined.ensures.undetermined)

pub prepare-returns-in_ok-that-in-If-clause-prepared : goal.prepare-returns-in_ok-that-in-If-clause-prepared
prepare-returns-in_ok-that-in-If-clause-prepared t c =
    rw (c.in-If.is, view-if c.in-If.place c.in-If.test c.in-If.this c.in-If.that, c.join_branches.ensures)
    (choice-prepared c.in-If.place c.in-If.test (level_of c.in-If.this)
    (level_of c.in-If.that) _ _ c.in_ok-this-in-If.ensures.order c.in_ok-that-in-If.ensures.order)

pub prepare-returns-in_ok-that-in-If-clause-outer : goal.prepare-returns-in_ok-that-in-If-clause-outer
prepare-returns-in_ok-that-in-If-clause-outer t c =
    rw (c.in-If.is, view-if c.in-If.place c.in-If.test c.in-If.this c.in-If.that)
    (append-three _ _ _ _ _ _ _ c.in_ok-add_of_test-in-If.ensures c.in_ok-this-in-If.ensures.outer
    c.in_ok-that-in-If.ensures.outer)

pub
    prepare-returns-in_ok-fields-in-Points-clause-outer :
    goal.prepare-returns-in_ok-fields-in-Points-clause-outer
prepare-returns-in_ok-fields-in-Points-clause-outer t c =
    rw (c.in-Points.is, view-points c.in-Points.place c.in-Points.root c.in-Points.fields)
    (append-two _ _ _ _ _ c.in_ok-add_existential-in-Points.ensures
    (rw c.deref.ensures.value at c.in_ok-add_of_fields-in-Points.ensures))

pub
    prepare-returns-in_ok-add_existential-in-Segment-2-clause-outer :
    goal.prepare-returns-in_ok-add_existential-in-Segment-2-clause-outer
prepare-returns-in_ok-add_existential-in-Segment-2-clause-outer t c =
    rw (c.in-Segment.is, view-segment c.in-Segment.place c.in-Segment.next c.in-Segment.from c.in-Segment.to)
    (append-two _ _ _ _ _ c.in_ok-add_existential-in-Segment.ensures
    c.in_ok-add_existential-in-Segment-2.ensures)

pub prepare-returns-in_ok-add_of_four-in-Doubly-clause-outer :
    goal.prepare-returns-in_ok-add_of_four-in-Doubly-clause-outer
prepare-returns-in_ok-add_of_four-in-Doubly-clause-outer t c =
    rw (
      c.in-Doubly.is,
      view-doubly c.in-Doubly.place c.in-Doubly.next c.in-Doubly.back c.in-Doubly.from
          c.in-Doubly.before c.in-Doubly.last c.in-Doubly.to,
    ) c.in_ok-add_of_four-in-Doubly.ensures

pub order_branch-returns-in-Ok-clause-outer : goal.order_branch-returns-in-Ok-clause-outer
order_branch-returns-in-Ok-clause-outer t c =
    c.in_ok-add_all_not_made.ensures
    ∙ ap (λ ns. c.args.outer.now.items ++ ns)
    (rw c.deref-2.ensures.value (level-outer c.args.branch.now c.in_ok-parts.parts.outers.items
    (rw c.deref.ensures.value at c.in_ok-parts.ensures.outer)))

pub
    order_branch-returns-in-Err-Undetermined-clause-outer :
    goal.order_branch-returns-in-Err-Undetermined-clause-outer
order_branch-returns-in-Err-Undetermined-clause-outer t c =
    c.in_ok-add_all_not_made.ensures
    ∙ ap (λ ns. c.args.outer.now.items ++ ns)
    (rw c.deref-2.ensures.value (level-outer c.args.branch.now c.in_ok-parts.parts.outers.items
    (rw c.deref.ensures.value at c.in_ok-parts.ensures.outer)))

pub prepare_all-loop-c-preserved : goal.prepare_all-loop-c-preserved
prepare_all-loop-c-preserved t c = record {
  prepared =
      rw c.in_ok-push.ensures.items
      (zip-more _ c.args.cs.now c.loop-c.orders.items c.loop-c.c-index c.c-item.result
      c.in_ok-prepare.field-0 c.loop-c-test.true c.c-item.is c.loop-c.invariant.prepared
      c.in_ok-prepare.ensures.prepared);
  outer =
      rw c.in_ok-push-2.ensures.items
      (zip-more _ c.args.cs.now c.loop-c.outers.items c.loop-c.c-index c.c-item.result c.prepare.new.outer
      c.loop-c-test.true c.c-item.is c.loop-c.invariant.outer
      (rw c.new-outer.ensures.items at c.in_ok-prepare.ensures.outer));
}
