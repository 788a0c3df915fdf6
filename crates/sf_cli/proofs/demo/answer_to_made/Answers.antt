use Rattle.sf_base.proofs.Results.{ok-both}
use Rattle.sf_cli.proofs.DemoAnswers.{demo-refused}
use Rattle.sf_cli.proofs.demo.answer_to_made.Goals as goal

pub returns-in-Err : goal.returns-in-Err
returns-in-Err g c =
    ok-both c.say_refusal.result _ _ _
    (λ said s n. demo-refused c.args.procedures c.in-Err.refusal c.args.made.now c.requires
    (c.in-Err.ensures.refused n) said.text.items said.status s) c.say_refusal.ensures.said c.say_refusal.ensures.cause
