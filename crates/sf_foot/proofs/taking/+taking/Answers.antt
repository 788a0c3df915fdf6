use Rattle.std.proofs.Common.{◌∙◌, sym, true≢false}
use Rattle.sf_foot.proofs.Answered.{ok-then}
use Rattle.sf_core.specs.Assertions.Sat.{value}
use Rattle.sf_core.specs.Program.View.{level_of}
use Rattle.sf_foot.specs.Variables.{value_of}
use Rattle.sf_foot.proofs.Taken.{next_refused, next_taken, none_left}
use Rattle.sf_foot.proofs.Takings.{overflows-level, overflows-this, overflows-that, takes-level, takes-test, takes-this, takes-that}
use Rattle.sf_foot.specs.Checked.Lemmas.Views.{view-holds, view-if, view-level, view-points, view-segment, view-doubly, view-tree}
use Rattle.sf_foot.proofs.taking.+taking.Goals as goal

-- one conjunct after the other
pub take_all-returns-then-not-branch-clause-no : goal.take_all-returns-then-not-branch-clause-no
take_all-returns-then-not-branch-clause-no t c = λ _. next_refused c.args.heap.now (value (value_of c.args.vars.now)) _ _ _ _ _ c.args.cs.now c.loop-c.c-index
    c.c-item.result c.loop-c.invariant c.loop-c-test.true c.c-item.is (c.in_ok-take_one.ensures.no c.if-not-branch.true)

pub take_all-loop-c-preserved : goal.take_all-loop-c-preserved
take_all-loop-c-preserved t c = next_taken c.args.heap.now (value (value_of c.args.vars.now)) _ _ _ _ _ _ _ c.args.cs.now c.loop-c.c-index c.c-item.result
    c.loop-c.invariant c.loop-c-test.true c.c-item.is (c.in_ok-take_one.ensures.yes c.if-not-branch.false)

pub take_all-returns-clause-yes : goal.take_all-returns-clause-yes
take_all-returns-clause-yes t c = λ _. none_left c.args.heap.now (value (value_of c.args.vars.now)) _ _ _ _ _ c.args.cs.now c.loop-c.c-index
    c.loop-c.invariant c.loop-c-test.false

-- a level takes what its conjuncts take
pub take_level-returns-clause-yes : goal.take_level-returns-clause-yes
take_level-returns-clause-yes t c = λ i.
    let back = c.leave.ensures c.args.known.now.outer.items c.args.known.now.inner
    ((c.in_ok-all.ensures.yes i).grows.outer ∙ c.in_ok-enter.ensures.outer) in
    let all = rw c.deref.ensures.value at (c.in_ok-all.ensures.yes i) in
    rw (view-level c.args.level.now) (takes-level c.args.heap.now (value (value_of c.args.vars.now)) _ _ c.args.known.now
    c.enter.new.self c.take_all.new.known c.leave.new.self c.in_ok-enter.ensures.told c.in_ok-enter.ensures.made
    all.grows back.0 back.1 _ _ all)

pub take_level-returns-clause-no : goal.take_level-returns-clause-no
take_level-returns-clause-no t c = λ i.
    rw (view-level c.args.level.now) (overflows-level c.args.heap.now (value (value_of c.args.vars.now)) _ _ c.args.known.now
    c.enter.new.self _ c.in_ok-enter.ensures.told (rw c.deref.ensures.value at (c.in_ok-all.ensures.no i)))

-- a test takes no cell
pub take_one-returns-in-Holds-clause-yes : goal.take_one-returns-in-Holds-clause-yes
take_one-returns-in-Holds-clause-yes t c = ok-then c.take_test.result _ _ c.take_test.ensures.yes
    (λ b f i. rw (c.in-Holds.is, view-holds c.in-Holds.field-0 c.in-Holds.test) (takes-test c.args.heap.now (value (value_of c.args.vars.now))
    c.in-Holds.field-0 c.in-Holds.test c.args.known.now c.take_test.new.known c.args.found.now.items
    (f i c.in-Holds.field-0)))

pub take_one-returns-in-Points-clause-yes : goal.take_one-returns-in-Points-clause-yes
take_one-returns-in-Points-clause-yes t c = ok-then c.take_cell.result _ _ c.take_cell.ensures.yes
    (λ b f i. rw (c.in-Points.is, view-points c.in-Points.field-0 c.in-Points.root c.in-Points.fields) (rw c.deref.ensures.value at (f i c.in-Points.field-0)))

pub take_one-returns-in-Points-clause-no : goal.take_one-returns-in-Points-clause-no
take_one-returns-in-Points-clause-no t c = ok-then c.take_cell.result _ _ c.take_cell.ensures.no
    (λ b f i. rw (c.in-Points.is, view-points c.in-Points.field-0 c.in-Points.root c.in-Points.fields) (rw c.deref.ensures.value at (f i c.in-Points.field-0)))

pub take_one-returns-in-Segment-clause-yes : goal.take_one-returns-in-Segment-clause-yes
take_one-returns-in-Segment-clause-yes t c = ok-then c.take_segment.result _ _ c.take_segment.ensures.yes
    (λ b f i. rw (c.in-Segment.is, view-segment c.in-Segment.field-0 c.in-Segment.next c.in-Segment.from c.in-Segment.to) (f i c.in-Segment.field-0))

pub take_one-returns-in-Segment-clause-no : goal.take_one-returns-in-Segment-clause-no
take_one-returns-in-Segment-clause-no t c = ok-then c.take_segment.result _ _ c.take_segment.ensures.no
    (λ b f i. rw (c.in-Segment.is, view-segment c.in-Segment.field-0 c.in-Segment.next c.in-Segment.from c.in-Segment.to) (f i c.in-Segment.field-0))

pub take_one-returns-in-Doubly-clause-yes : goal.take_one-returns-in-Doubly-clause-yes
take_one-returns-in-Doubly-clause-yes t c = ok-then c.take_double.result _ _ c.take_double.ensures.yes
    (λ b f i. rw (
      c.in-Doubly.is,
      view-doubly c.in-Doubly.field-0 c.in-Doubly.next c.in-Doubly.back c.in-Doubly.from
          c.in-Doubly.before c.in-Doubly.last c.in-Doubly.to,
    ) (f i c.in-Doubly.field-0))

pub take_one-returns-in-Doubly-clause-no : goal.take_one-returns-in-Doubly-clause-no
take_one-returns-in-Doubly-clause-no t c = ok-then c.take_double.result _ _ c.take_double.ensures.no
    (λ b f i. rw (
      c.in-Doubly.is,
      view-doubly c.in-Doubly.field-0 c.in-Doubly.next c.in-Doubly.back c.in-Doubly.from
          c.in-Doubly.before c.in-Doubly.last c.in-Doubly.to,
    ) (f i c.in-Doubly.field-0))

pub take_one-returns-in-Tree-clause-yes : goal.take_one-returns-in-Tree-clause-yes
take_one-returns-in-Tree-clause-yes t c = ok-then c.take_tree.result _ _ c.take_tree.ensures.yes
    (λ b f i. rw (c.in-Tree.is, view-tree c.in-Tree.field-0 c.in-Tree.left c.in-Tree.right c.in-Tree.root) (f i c.in-Tree.field-0))

pub take_one-returns-in-Tree-clause-no : goal.take_one-returns-in-Tree-clause-no
take_one-returns-in-Tree-clause-no t c = ok-then c.take_tree.result _ _ c.take_tree.ensures.no
    (λ b f i. rw (c.in-Tree.is, view-tree c.in-Tree.field-0 c.in-Tree.left c.in-Tree.right c.in-Tree.root) (f i c.in-Tree.field-0))

pub take_one-returns-then-is_true-clause-yes : goal.take_one-returns-then-is_true-clause-yes
take_one-returns-then-is_true-clause-yes t c = ok-then c.take_level.result _ _ c.take_level.ensures.yes
    (λ b f i. rw (c.in-If.is, view-if c.in-If.field-0 c.in-If.test c.in-If.this c.in-If.that) (takes-this c.args.heap.now (value (value_of c.args.vars.now))
    c.in-If.field-0 c.in-If.test (level_of c.in-If.this) (level_of c.in-If.that) c.args.known.now c.take_level.new.known _ _
    (λ s h. (c.is_true.ensures s h).0 c.if-is_true.true) (f i)))

pub take_one-returns-then-is_true-clause-no : goal.take_one-returns-then-is_true-clause-no
take_one-returns-then-is_true-clause-no t c = ok-then c.take_level.result _ _ c.take_level.ensures.no
    (λ b f i. rw (c.in-If.is, view-if c.in-If.field-0 c.in-If.test c.in-If.this c.in-If.that) (overflows-this c.args.heap.now (value (value_of c.args.vars.now))
    c.in-If.field-0 c.in-If.test (level_of c.in-If.this) (level_of c.in-If.that) c.args.known.now _
    (λ s h. (c.is_true.ensures s h).0 c.if-is_true.true) (f i)))

pub take_one-returns-else-is_true-clause-yes : goal.take_one-returns-else-is_true-clause-yes
take_one-returns-else-is_true-clause-yes t c = ok-then c.take_level-else-is_true.result _ _ c.take_level-else-is_true.ensures.yes
    (λ b f i. rw (c.in-If.is, view-if c.in-If.field-0 c.in-If.test c.in-If.this c.in-If.that) (takes-that c.args.heap.now (value (value_of c.args.vars.now))
    c.in-If.field-0 c.in-If.test (level_of c.in-If.this) (level_of c.in-If.that) c.args.known.now c.take_level-else-is_true.new.known _ _
    (λ s h k. true≢false (sym ((c.is_true.ensures s h).1 k) ∙ c.if-is_true.false)) (f i)))

pub take_one-returns-else-is_true-clause-no : goal.take_one-returns-else-is_true-clause-no
take_one-returns-else-is_true-clause-no t c = ok-then c.take_level-else-is_true.result _ _ c.take_level-else-is_true.ensures.no
    (λ b f i. rw (c.in-If.is, view-if c.in-If.field-0 c.in-If.test c.in-If.this c.in-If.that) (overflows-that c.args.heap.now (value (value_of c.args.vars.now))
    c.in-If.field-0 c.in-If.test (level_of c.in-If.this) (level_of c.in-If.that) c.args.known.now _
    (λ s h k. true≢false (sym ((c.is_true.ensures s h).1 k) ∙ c.if-is_true.false)) (f i)))
