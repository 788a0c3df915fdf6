use Rattle.std.proofs.Common.{arith}
use Rattle.std.proofs.lemmas.Result.{IfOk-weaker}
use Rattle.sf_base.proofs.Results.{ok-both}
use Rattle.sf_core.specs.Program.ProgramView.{program_of}
use Rattle.sf_cli.proofs.Kept.{kept-unfinished}
use Rattle.sf_cli.proofs.RunReplies.{bytes-admitted}
use Rattle.sf_cli.specs.Answer.{RunAnswer, RunJournal, refused_run}
use Rattle.sf_cli.proofs.run.run_bytes.Goals as goal

pub returns-in-Ok-clause-answered : goal.returns-in-Ok-clause-answered
returns-in-Ok-clause-answered g c =
    let words = c.args.words.now in
    IfOk-weaker c.run_program.result _ _
    (λ said k less. bytes-admitted words.kept (g.S.Shelf.files c.args.shelf.now) c.args.bytes.now words.procedure.now
    words.state.now said.text.items words.budget.steps words.budget.waits said.status
    (program_of c.in-Ok.arranged.program) c.in-Ok.ensures.admitted (k less)) c.run_program.ensures.answered

pub returns-in-Ok-clause-unread : goal.returns-in-Ok-clause-unread
returns-in-Ok-clause-unread g c =
    IfOk-weaker c.run_program.result _ _
    (λ said k seven. let u = k seven in
    ((program_of c.in-Ok.arranged.program, c.in-Ok.ensures.admitted, u.0), u.1, u.2))
    c.run_program.ensures.unread

pub returns-in-Ok-clause-others : goal.returns-in-Ok-clause-others
returns-in-Ok-clause-others g c = λ other h.
    c.run_program.ensures.others other
    (λ e. h (e.0, (program_of c.in-Ok.arranged.program, c.in-Ok.ensures.admitted, e.1)))

pub returns-in-Err-clause-answered : goal.returns-in-Err-clause-answered
returns-in-Err-clause-answered g c =
    let words = c.args.words.now in
    let told = g.S.Shelf.files c.args.shelf.now in
    ok-both c.say_refusal.result _ _ _
    (λ said s n less. let three = s.1 in
    kept-unfinished words.kept (RunAnswer told c.args.bytes.now words.procedure.now words.state.now words.budget.steps
    words.budget.waits) (RunJournal told c.args.bytes.now words.procedure.now words.state.now words.budget.steps)
    said.text.items said.status (λ z. omega (arith, three, z))
    (refused_run c.in-Err.refusal (c.in-Err.ensures.refused n) s.0 s.1)) c.say_refusal.ensures.said
    c.say_refusal.ensures.cause
