use Rattle.std.proofs.Common.{◌↔◌, IsTrue, List, Option, ap, ◌∙◌, subst}
use Rattle.std.proofs.lemmas.Result.{IfOk-weaker}
use Rattle.sf_base.specs.declared.ids.FieldId.{FieldId}
use Rattle.sf_core.specs.declared.assertion.Operand.{Operand}
use Rattle.sf_core.specs.Program.View.{conjunct_of}
use Rattle.sf_heap.specs.Cells.{heap_of}
use Rattle.sf_sym.specs.declared.term.Term.{Term}
use Rattle.sf_witness.specs.Checked.Meeting.{HasCellAs}
use Rattle.sf_witness.specs.Checked.Wishes.{HasDoubleOf}
use Rattle.sf_foot.specs.Checked.Lemmas.Views.{view-doubly, view-holds, view-points, view-segment, view-tree}
use Rattle.sf_witness.proofs.Views.{double-in, holds-in, plain-by, points-in, segment-in, through, tree-in}
use Rattle.sf_witness.proofs.wanted.is_satisfied.Goals as goal

pub returns-in-Holds : goal.returns-in-Holds
returns-in-Holds c =
    plain-by (heap_of c.args.heap.now) c.args.want.bindings.now _ _ c.is_true.result
    (ap conjunct_of c.in-Holds.is ∙ view-holds c.in-Holds.field-0 c.in-Holds.test)
    (through c.is_true.result _ _ c.is_true.ensures
    (holds-in (heap_of c.args.heap.now) c.args.want.bindings.now c.in-Holds.field-0 c.in-Holds.test))

pub returns-in-Points : goal.returns-in-Points
returns-in-Points c = IfOk-weaker c.has_cell.result _ _ (λ b d.
    plain-by (heap_of c.args.heap.now) c.args.want.bindings.now _ _ b
    (ap conjunct_of c.in-Points.is ∙ view-points c.in-Points.field-0 c.in-Points.root c.in-Points.fields)
    (through b _ _ (subst (λ (fs : List (FieldId × Operand Term)). IsTrue b
    ↔ HasCellAs c.args.want.bindings.now c.in-Points.root fs (heap_of c.args.heap.now)) c.deref.ensures.value d)
    (points-in (heap_of c.args.heap.now) c.args.want.bindings.now c.in-Points.field-0 c.in-Points.root
    c.in-Points.fields.items))) c.has_cell.ensures

pub returns-in-Segment : goal.returns-in-Segment
returns-in-Segment c = IfOk-weaker c.has_wanted_segment.result _ _ (λ b d.
    plain-by (heap_of c.args.heap.now) c.args.want.bindings.now _ _ b
    (ap conjunct_of c.in-Segment.is
    ∙ view-segment c.in-Segment.field-0 c.in-Segment.next c.in-Segment.from c.in-Segment.to)
    (through b _ _ d
    (segment-in (heap_of c.args.heap.now) c.args.want.bindings.now c.in-Segment.field-0 c.in-Segment.next
    c.in-Segment.from c.in-Segment.to))) c.has_wanted_segment.ensures

pub returns-in-Doubly : goal.returns-in-Doubly
returns-in-Doubly c =
    let heap = heap_of c.args.heap.now in
    let p = c.in-Doubly in
    IfOk-weaker c.has_wanted_double.result _ _ (λ b d. plain-by heap c.args.want.bindings.now _ _ b
    (ap conjunct_of p.is ∙ view-doubly p.field-0 p.next p.back p.from p.before p.last p.to)
    (through b _ _ (subst (λ (o : Option (Term × Term × Term × Term)). IsTrue b ↔ HasDoubleOf p.next p.back o heap)
    c.four-terms.ensures d)
    (double-in heap c.args.want.bindings.now p.field-0 p.next p.back p.from p.before p.last p.to)))
    c.has_wanted_double.ensures

pub returns-in-Tree : goal.returns-in-Tree
returns-in-Tree c = IfOk-weaker c.has_wanted_tree.result _ _ (λ b d.
    plain-by (heap_of c.args.heap.now) c.args.want.bindings.now _ _ b
    (ap conjunct_of c.in-Tree.is ∙ view-tree c.in-Tree.field-0 c.in-Tree.left c.in-Tree.right c.in-Tree.root)
    (through b _ _ d
    (tree-in (heap_of c.args.heap.now) c.args.want.bindings.now c.in-Tree.field-0 c.in-Tree.left c.in-Tree.right
    c.in-Tree.root))) c.has_wanted_tree.ensures
