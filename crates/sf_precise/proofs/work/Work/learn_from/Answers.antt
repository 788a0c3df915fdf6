use Rattle.sf_precise.proofs.Learning.{learns-none}
use Rattle.sf_precise.proofs.Views.{view-if, view-doubly, view-segment, view-tree}
use Rattle.sf_precise.proofs.work.Work.learn_from.Goals as goal

pub returns-in-Segment : goal.returns-in-Segment
returns-in-Segment c =
    rw (
      c.in-Segment.is,
      view-segment c.in-Segment.field-0 c.in-Segment.field-1 c.in-Segment.field-2
          c.in-Segment.field-3,
    ) (learns-none c.args.self.now)

pub returns-in-Doubly : goal.returns-in-Doubly
returns-in-Doubly c =
    rw (
      c.in-Doubly.is,
      view-doubly c.in-Doubly.field-0 c.in-Doubly.field-1 c.in-Doubly.field-2 c.in-Doubly.field-3
          c.in-Doubly.field-4 c.in-Doubly.field-5 c.in-Doubly.field-6,
    ) (learns-none c.args.self.now)

pub returns-in-Tree : goal.returns-in-Tree
returns-in-Tree c =
    rw (c.in-Tree.is, view-tree c.in-Tree.field-0 c.in-Tree.field-1 c.in-Tree.field-2 c.in-Tree.field-3)
    (learns-none c.args.self.now)

pub returns-in-If : goal.returns-in-If
returns-in-If c =
    rw (c.in-If.is, view-if c.in-If.field-0 c.in-If.field-1 c.in-If.field-2 c.in-If.field-3)
    (learns-none c.args.self.now)
