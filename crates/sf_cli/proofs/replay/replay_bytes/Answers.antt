use Rattle.std.proofs.lemmas.Result.{IfOk-weaker}
use Rattle.sf_base.proofs.Results.{ok-both}
use Rattle.sf_core.specs.Program.ProgramView.{program_of}
use Rattle.sf_cli.proofs.ReplayReplies.{answering-three, replay-same}
use Rattle.sf_cli.specs.Checked.Stages.{says}
use Rattle.sf_cli.specs.Replayed.{ComesByBytes, ComesByProgram, EnteredAnswer, ReplayAnswer, admitted_replay, refused_replay}
use Rattle.sf_cli.proofs.replay.replay_bytes.Goals as goal

pub returns-in-Ok-clause-said : goal.returns-in-Ok-clause-said
returns-in-Ok-clause-said g c =
    let told = g.S.Shelf.files c.args.shelf.now in
    let p = program_of c.in-Ok.arranged.program in
    let words = c.args.words.now in
    let bytes = c.args.bytes.now in
    IfOk-weaker c.replay_program.result _ _
    (λ said k. replay-same (EnteredAnswer told p words.procedure.now words.state.now words.schedule.now)
    (ReplayAnswer told bytes words.procedure.now words.state.now words.schedule.now)
    (ComesByProgram told p words.procedure.now words.state.now words.schedule.now)
    (ComesByBytes told bytes words.procedure.now words.state.now words.schedule.now)
    (g.S.Shelf.faults c.args.shelf.now) (g.S.Shelf.faults c.replay_program.new.shelf) said.text.items said.status
    (λ a. admitted_replay p c.in-Ok.ensures.admitted a) (λ other e. (p, c.in-Ok.ensures.admitted, e)) k)
    c.replay_program.ensures.said

pub returns-in-Ok-clause-others : goal.returns-in-Ok-clause-others
returns-in-Ok-clause-others g c = λ other h.
    c.replay_program.ensures.others other
    (λ e. h (program_of c.in-Ok.arranged.program, c.in-Ok.ensures.admitted, e))

pub returns-in-Err-clause-said : goal.returns-in-Err-clause-said
returns-in-Err-clause-said g c =
    ok-both c.say_refusal.result _ _ _
    (λ said s n. says (answering-three said.status s.1) (refused_replay c.in-Err.refusal (c.in-Err.ensures.refused n)
    s.0 s.1)) c.say_refusal.ensures.said c.say_refusal.ensures.cause
