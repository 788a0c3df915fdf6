use Rattle.sf_core.specs.Program.ProgramView.{program_of}
use Rattle.sf_core.specs.Program.View.{call_of, procedure_of}
use Rattle.sf_frame.specs.Commons.{common_of}
use Rattle.sf_frame.specs.Stamps.{event_of}
use Rattle.sf_frame.specs.Frames.{fixed_of}
use Rattle.sf_frame.proofs.Plans.{plan_call, procedure_there}
use Rattle.sf_frame.proofs.plan.plan_call.Goals as goal

pub returns : goal.returns
returns c = λ cell.
    let g = procedure_there procedure_of c.args.p.now.procedures.items c.args.call.now.callee.0 c.requires.callee in
    plan_call (program_of c.args.p.now) (event_of c.args.event.now cell) (common_of c.args.shared.now)
    (fixed_of c.args.frame.now) (call_of c.args.call.now) g.0 c.in_ok-values.values c.room_for-room.result
    c.in_ok-callee.callee g.1 (c.room_for-room.ensures.room g.0 g.1) c.room_for-room.ensures.few
    c.in_ok-values.ensures.room c.in_ok-values.ensures.opens (c.in_ok-callee.ensures g.0 g.1) c.requires.fresh
