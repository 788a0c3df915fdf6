use Rattle.std.proofs.lemmas.Result.{IfOk-weaker}
use Rattle.sf_base.proofs.Results.{ok-both}
use Rattle.sf_core.specs.Program.ProgramView.{program_of}
use Rattle.sf_cli.specs.Answer.{file_refused, rechecked}
use Rattle.sf_cli.proofs.recheck.recheck_bytes.Goals as goal

pub returns-in-Ok-clause-answered : goal.returns-in-Ok-clause-answered
returns-in-Ok-clause-answered g c =
    IfOk-weaker c.recheck_program.result _ _
    (λ said k less. rechecked (program_of c.in-Ok.arranged.program) c.in-Ok.ensures.admitted (k less))
    c.recheck_program.ensures.answered

pub returns-in-Ok-clause-unread : goal.returns-in-Ok-clause-unread
returns-in-Ok-clause-unread g c =
    IfOk-weaker c.recheck_program.result _ _
    (λ said k seven. let u = k seven in
    ((program_of c.in-Ok.arranged.program, c.in-Ok.ensures.admitted), u.0, u.1))
    c.recheck_program.ensures.unread

pub returns-in-Ok-clause-others : goal.returns-in-Ok-clause-others
returns-in-Ok-clause-others g c = λ other h.
    c.recheck_program.ensures.others other
    (λ e. h (e, (program_of c.in-Ok.arranged.program, c.in-Ok.ensures.admitted)))

pub returns-in-Err-clause-answered : goal.returns-in-Err-clause-answered
returns-in-Err-clause-answered g c =
    ok-both c.say_refusal.result _ _ _
    (λ said s n less. file_refused c.in-Err.refusal (c.in-Err.ensures.refused n) s.0 s.1) c.say_refusal.ensures.said
    c.say_refusal.ensures.cause
