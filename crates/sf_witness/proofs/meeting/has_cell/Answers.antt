use Rattle.std.proofs.Common.{◌≡◌, true, subst}
use Rattle.sf_heap.specs.Cells.{heap_of}
use Rattle.sf_witness.specs.Checked.Meeting.{IsAmong}
use Rattle.sf_witness.proofs.Equations.{among-rest}
use Rattle.sf_witness.proofs.meeting.has_cell.Goals as goal

pub loop-first-preserved : goal.loop-first-preserved
loop-first-preserved c = λ a.
    among-rest c.args.bindings.now c.args.root.now c.args.fields.now (heap_of c.args.heap.now) c.in-Some.first.now
    c.in-Some.rest.now
    (λ w. let b : c.in_ok-meet_at.field-0 ≡ true = c.in_ok-meet_at.ensures.1 w in absurd (cc (c.if-branch.false)))
    (subst (IsAmong c.args.bindings.now c.args.root.now c.args.fields.now (heap_of c.args.heap.now))
    c.in-Some.ensures.cases.0 (c.loop-first.invariant a))
