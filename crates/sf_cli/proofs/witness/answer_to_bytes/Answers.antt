use Rattle.std.proofs.lemmas.Result.{IfOk-weaker}
use Rattle.sf_base.proofs.Results.{ok-both}
use Rattle.sf_core.specs.Program.ProgramView.{program_of}
use Rattle.sf_cli.specs.Answer.{admitted_witness, refused_witness}
use Rattle.sf_cli.proofs.witness.answer_to_bytes.Goals as goal

pub returns-in-Ok : goal.returns-in-Ok
returns-in-Ok c =
    IfOk-weaker c.answer_to_program.result _ _
    (λ said k. admitted_witness (program_of c.in-Ok.arranged.program) c.in-Ok.ensures.admitted k)
    c.answer_to_program.ensures

pub returns-in-Err : goal.returns-in-Err
returns-in-Err c =
    ok-both c.say_refusal.result _ _ _
    (λ said s n. refused_witness c.in-Err.refusal (c.in-Err.ensures.refused n) s.0 s.1) c.say_refusal.ensures.said
    c.say_refusal.ensures.cause
