use Rattle.std.proofs.Common.{◌≡◌, ◌∙◌, List, ap, refl, subst}
use Rattle.sf_base.proofs.Options.{some-once}
use Rattle.sf_core.specs.declared.command.Occurrence.{Occurrence}
use Rattle.sf_core.specs.Machine.Step.{callee_frame}
use Rattle.sf_core.specs.Program.Syntax.{Procedure}
use Rattle.sf_core.specs.Program.View.{call_of, procedure_of}
use Rattle.sf_frame.specs.Checked.Calls.{AreReferences}
use Rattle.sf_frame.specs.Frames.{block_items, fixed_of, room_of}
use Rattle.sf_frame.proofs.Calls.{call_frame}
use Rattle.sf_frame.proofs.calling.callee_frame.Goals as goal

pub returns : goal.returns
returns c = λ g there.
    let same : procedure_of c.proc.result.now ≡ g =
    some-once _ (procedure_of c.proc.result.now) g c.proc.ensures.meaning there in
    let slots = (fixed_of c.args.caller.now).slots in
    call_frame slots c.args.call.now c.proc.result.now (record {
      procedure = c.args.call.now.callee;
      references = c.in_ok-references.references;
      room = c.args.room;
      todo = c.in_ok-todo.todo;
      deep = c.in_ok-todo.ensures.deep;
    }) refl
    (subst (λ (xs : List Occurrence). AreReferences slots xs c.in_ok-references.references.items)
    c.deref.ensures.value c.in_ok-references.ensures)
    (c.in_ok-todo.ensures.todo ∙ ap block_items c.deref-2.ensures.value)
    ∙ ap (λ (h : Procedure). callee_frame slots (call_of c.args.call.now) h (room_of c.args.room)) same
