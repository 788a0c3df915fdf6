use Rattle.std.proofs.Common.{◌≡◌, ◌<◌, length, map, subst, sym}
use Rattle.std.proofs.lemmas.Result.{IfOk-weaker}
use Rattle.std.specs.Prelude.{IfOk, IfSome, slice_get}
use Rattle.sf_base.proofs.Results.{ok-both}
use Rattle.sf_check.specs.Accepted.{arranged_in}
use Rattle.sf_core.specs.Program.ProgramView.{program_of}
use Rattle.sf_part.specs.Parts.{entry_of}
use Rattle.sf_precise.specs.declared.arranged.Arranged.{Arranged}
use Rattle.sf_run.specs.Running.{program_in}
use Rattle.sf_cli.proofs.RunReplies.{ran-ended, ran-halted}
use Rattle.sf_cli.specs.Checked.Printed.{SaysEnd, stop_text}
use Rattle.sf_cli.proofs.run.answer_to_start.Goals as goal

pub say_end-requires : goal.say_end-requires
say_end-requires g c =
    subst (λ (a : Arranged). c.args.f.0 < length a.program.procedures.items) (sym c.arranged-arranged.ensures)
    c.requires.there

pub returns-in-Ok : goal.returns-in-Ok
returns-in-Ok g c =
    let words = c.args.words.now in
    let said = subst (λ (a : Arranged). IfOk c.say_end.result (λ said.
    IfSome (slice_get (program_of a.program).procedures c.args.f.0) (λ h. SaysEnd words.kept (program_of a.program) h
    c.in-Ok.end.vars c.in-Ok.end.heap (map entry_of c.in-Ok.log.entries.items) said.text.items said.status)))
    c.arranged-arranged.ensures c.say_end.ensures in
    IfOk-weaker c.say_end.result _ _
    (λ said k. ran-ended c.beginnings_are_unique.ensures words.kept (program_in c.args.proof.now) c.args.f
    c.args.start.fresh c.args.start.vars c.args.start.heap c.args.start.unit words.budget.steps words.budget.waits
    c.in-Ok.end (map entry_of c.in-Ok.log.entries.items) said.text.items said.status
    (arranged_in c.args.proof.now).program.formed c.in-Ok.ensures.ends c.in-Ok.ensures.ends_alone c.in-Ok.ensures.log k)
    said

pub returns : goal.returns
returns g c =
    let words = c.args.words.now in
    let said = subst (λ (a : Arranged). IfOk c.say_stop.result (λ said.
    (said.text.items ≡ stop_text (program_of a.program) c.in-Err.stop) × (said.status ≡ 6)))
    c.arranged-arranged.ensures c.say_stop.ensures.said in
    ok-both c.say_stop.result _ _ _
    (λ said s n. ran-halted c.beginnings_are_unique.ensures words.kept (program_in c.args.proof.now) c.args.f
    c.args.start.fresh c.args.start.vars c.args.start.heap c.args.start.unit words.budget c.in-Err.stop said.text.items
    said.status c.in-Err.ensures.stops c.in-Err.ensures.stops_alone n s.0 s.1) said c.say_stop.ensures.cause
