use Rattle.std.proofs.Common.{ap, ◌∙◌, subst, sym}
use Rattle.sf_core.specs.Program.View.{assertion_of, block_of, command_of}
use Rattle.sf_frame.specs.Checked.Plans.{TakesRoom}
use Rattle.sf_frame.specs.Stamps.{event_of}
use Rattle.sf_frame.proofs.Acts.{fits_edit, fits_room}
use Rattle.sf_frame.proofs.Views.{view_assign, view_call, view_dispose, view_fork, view_if, view_look_up, view_mutate, view_new, view_while, view_with}
use Rattle.sf_frame.proofs.act.act_of.Goals as goal

pub returns-in-Assign-clause-acts : goal.returns-in-Assign-clause-acts
returns-in-Assign-clause-acts c =
    rw (ap command_of c.in-Assign.is ∙ view_assign c.in-Assign.field-0 c.in-Assign.x c.in-Assign.e)
    (λ p within cell. c.assign.ensures.acts p (event_of c.args.event.now cell) c.in-Assign.field-0)

pub returns-in-LookUp-clause-acts : goal.returns-in-LookUp-clause-acts
returns-in-LookUp-clause-acts c =
    rw (ap command_of c.in-LookUp.is ∙ view_look_up c.in-LookUp.field-0 c.in-LookUp.x c.in-LookUp.e c.in-LookUp.field)
    (λ p within cell. c.look_up.ensures.acts p (event_of c.args.event.now cell) c.in-LookUp.field-0)

pub returns-in-Mutate-clause-acts : goal.returns-in-Mutate-clause-acts
returns-in-Mutate-clause-acts c =
    rw (ap command_of c.in-Mutate.is ∙ view_mutate c.in-Mutate.field-0 c.in-Mutate.e c.in-Mutate.field c.in-Mutate.v)
    (λ p within cell. c.mutate.ensures.acts p (event_of c.args.event.now cell) c.in-Mutate.field-0 within)

pub returns-in-Dispose-clause-acts : goal.returns-in-Dispose-clause-acts
returns-in-Dispose-clause-acts c =
    rw (ap command_of c.in-Dispose.is ∙ view_dispose c.in-Dispose.field-0 c.in-Dispose.e)
    (λ p within cell. c.dispose.ensures.acts p (event_of c.args.event.now cell) c.in-Dispose.field-0)

pub returns-in-New-clause-acts : goal.returns-in-New-clause-acts
returns-in-New-clause-acts c =
    rw (ap command_of c.in-New.is ∙ view_new c.in-New.field-0 c.in-New.x)
    (λ p within cell. c.make.ensures cell p c.in-New.field-0)

pub returns-in-If-clause-acts : goal.returns-in-If-clause-acts
returns-in-If-clause-acts c =
    rw (ap command_of c.in-If.is ∙ view_if c.in-If.field-0 c.in-If.test c.in-If.field-2 c.in-If.field-3)
    (λ p within cell. c.choose.ensures.acts (block_of c.in-If.field-2.items) (block_of c.in-If.field-3.items) p
    (event_of c.args.event.now cell) c.in-If.field-0)

pub returns-in-While-clause-acts : goal.returns-in-While-clause-acts
returns-in-While-clause-acts c =
    rw (ap command_of c.in-While.is ∙ view_while c.in-While.field-0 c.in-While.test c.in-While.field-2 c.in-While.field-3)
    (λ p within cell. c.repeat.ensures.acts (block_of c.in-While.field-3.items) (assertion_of c.in-While.field-2) p
    (event_of c.args.event.now cell) c.in-While.field-0)

pub returns-in-With-clause-acts : goal.returns-in-With-clause-acts
returns-in-With-clause-acts c =
    rw (ap command_of c.in-With.is ∙ view_with c.in-With.field-0 c.in-With.r c.in-With.test c.in-With.field-3)
    (λ p within cell. c.enter.ensures (block_of c.in-With.field-3.items) p (event_of c.args.event.now cell)
    c.in-With.field-0)

pub returns-in-Call-clause-acts : goal.returns-in-Call-clause-acts
returns-in-Call-clause-acts c = λ p within cell.
    (c.in-Call.field-0, ap command_of c.in-Call.is ∙ view_call c.in-Call.field-0 c.in-Call.call)

pub returns-in-Fork-clause-acts : goal.returns-in-Fork-clause-acts
returns-in-Fork-clause-acts c = λ p within cell.
    (c.in-Fork.field-0, ap command_of c.in-Fork.is ∙ view_fork c.in-Fork.field-0 c.in-Fork.one c.in-Fork.two)

pub returns-in-Assign-clause-room : goal.returns-in-Assign-clause-room
returns-in-Assign-clause-room c = fits_edit (command_of c.args.command.now) c.assign.result c.assign.ensures.edits

pub returns-in-LookUp-clause-room : goal.returns-in-LookUp-clause-room
returns-in-LookUp-clause-room c = fits_edit (command_of c.args.command.now) c.look_up.result c.look_up.ensures.edits

pub returns-in-Mutate-clause-room : goal.returns-in-Mutate-clause-room
returns-in-Mutate-clause-room c = fits_edit (command_of c.args.command.now) c.mutate.result c.mutate.ensures.edits

pub returns-in-Dispose-clause-room : goal.returns-in-Dispose-clause-room
returns-in-Dispose-clause-room c = fits_edit (command_of c.args.command.now) c.dispose.result c.dispose.ensures.edits

pub returns-in-If-clause-room : goal.returns-in-If-clause-room
returns-in-If-clause-room c = fits_edit (command_of c.args.command.now) c.choose.result c.choose.ensures.edits

pub returns-in-While-clause-room : goal.returns-in-While-clause-room
returns-in-While-clause-room c = fits_edit (command_of c.args.command.now) c.repeat.result c.repeat.ensures.edits

pub returns-in-New-clause-room : goal.returns-in-New-clause-room
returns-in-New-clause-room c = fits_room (command_of c.args.command.now) c.make.result
    (subst TakesRoom (sym (ap command_of c.in-New.is ∙ view_new c.in-New.field-0 c.in-New.x)) tt)

pub returns-in-With-clause-room : goal.returns-in-With-clause-room
returns-in-With-clause-room c = fits_room (command_of c.args.command.now) c.enter.result
    (subst TakesRoom (sym (ap command_of c.in-With.is
    ∙ view_with c.in-With.field-0 c.in-With.r c.in-With.test c.in-With.field-3)) tt)
