use Rattle.std.proofs.Common.{◌<◌, arith, length}
use Rattle.sf_base.specs.declared.limits.TheConstants.{TURNS}
use Rattle.sf_core.specs.Program.ProgramView.{program_of}
use Rattle.sf_core.specs.Program.View.{call_of, procedure_of}
use Rattle.sf_frame.specs.Commons.{common_of}
use Rattle.sf_frame.specs.Stamps.{event_of}
use Rattle.sf_frame.specs.Frames.{fixed_of}
use Rattle.sf_frame.proofs.Plans.{plan_fork, procedure_there}
use Rattle.sf_frame.proofs.plan.plan_fork.Goals as goal

pub returns : goal.returns
returns c = λ cell.
    let deep : length c.args.event.now.task < TURNS = omega (arith, c.len.ensures.count) in
    let g = procedure_there procedure_of c.args.p.now.procedures.items c.args.one.now.callee.0 c.requires.left in
    let h = procedure_there procedure_of c.args.p.now.procedures.items c.args.two.now.callee.0 c.requires.right in
    plan_fork (program_of c.args.p.now) (event_of c.args.event.now cell) (common_of c.args.shared.now)
    (fixed_of c.args.frame.now) (call_of c.args.one.now) (call_of c.args.two.now) g.0 h.0
    c.in_ok-left_values.left_values c.in_ok-right_values.right_values c.room_for-left_room.result
    c.room_for-right_room.result c.in_ok-left.left c.in_ok-right.right deep g.1 h.1
    (c.room_for-left_room.ensures.room g.0 g.1) (c.room_for-right_room.ensures.room h.0 h.1)
    c.room_for-left_room.ensures.few c.room_for-right_room.ensures.few c.in_ok-left_values.ensures.room
    c.in_ok-right_values.ensures.room c.in_ok-left_values.ensures.opens c.in_ok-right_values.ensures.opens
    (c.in_ok-left.ensures g.0 g.1) (c.in_ok-right.ensures h.0 h.1) c.requires.fresh
