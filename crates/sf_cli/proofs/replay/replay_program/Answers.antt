use Rattle.std.proofs.lemmas.Result.{IfOk-weaker}
use Rattle.sf_base.proofs.Results.{ok-both}
use Rattle.sf_core.specs.Program.ProgramView.{program_of}
use Rattle.sf_state.specs.Entering.{IsEntryFault}
use Rattle.sf_cli.proofs.ReplayReplies.{answering-five, replay-same}
use Rattle.sf_cli.proofs.RunReplies.{entry-refused}
use Rattle.sf_cli.specs.Checked.Stages.{says}
use Rattle.sf_cli.specs.Replayed.{ComesByEntry, ComesByProgram, EnteredAnswer, StateFileAnswer, is_entered, not_entered}
use Rattle.sf_cli.proofs.replay.replay_program.Goals as goal

pub returns-in-Ok-clause-said : goal.returns-in-Ok-clause-said
returns-in-Ok-clause-said g c =
    let told = g.S.Shelf.files c.args.shelf.now in
    let p = program_of c.args.arranged.now.program in
    let words = c.args.words.now in
    let f = c.in-Ok.f in
    IfOk-weaker c.replay_entry.result _ _
    (λ said k. replay-same (StateFileAnswer told p f words.state.now words.schedule.now)
    (EnteredAnswer told p words.procedure.now words.state.now words.schedule.now)
    (ComesByEntry told p f words.state.now words.schedule.now)
    (ComesByProgram told p words.procedure.now words.state.now words.schedule.now)
    (g.S.Shelf.faults c.args.shelf.now) (g.S.Shelf.faults c.replay_entry.new.shelf) said.text.items said.status
    (λ a. is_entered f c.in-Ok.ensures.decides.found a) (λ other e. (f, c.in-Ok.ensures.decides.found, e)) k)
    c.replay_entry.ensures.said

pub returns-in-Ok-clause-others : goal.returns-in-Ok-clause-others
returns-in-Ok-clause-others g c = λ other h.
    c.replay_entry.ensures.others other (λ e. h (c.in-Ok.f, c.in-Ok.ensures.decides.found, e))

pub returns-in-Err-clause-said : goal.returns-in-Err-clause-said
returns-in-Err-clause-said g c =
    let p = program_of c.args.arranged.now.program in
    ok-both c.say_no_start.result _ _ _
    (λ said s n. says (answering-five said.status s.1) (not_entered c.in-Err.fault
    (entry-refused (IsEntryFault p c.args.words.now.procedure.now) c.in-Err.fault c.in-Err.ensures.decides.refused n) s.0
    s.1)) c.say_no_start.ensures.said c.say_no_start.ensures.cause
