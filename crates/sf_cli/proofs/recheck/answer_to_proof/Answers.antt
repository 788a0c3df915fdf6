use Rattle.std.proofs.Common.{refl}
use Rattle.std.proofs.lemmas.Result.{IfOk-weaker}
use Rattle.sf_cli.specs.Rechecked.{accepted, rejected}
use Rattle.sf_cli.proofs.recheck.answer_to_proof.Goals as goal

pub returns-in-Ok : goal.returns-in-Ok
returns-in-Ok c =
    IfOk-weaker c.say.result _ _ (λ said k. accepted c.in-Ok.ensures.accepted k.0 k.1) c.say.ensures

pub returns-in_ok-rejection_text-in-Err : goal.returns-in_ok-rejection_text-in-Err
returns-in_ok-rejection_text-in-Err c =
    rejected c.in-Err.rejection (c.in-Err.ensures.refused c.in_ok-rejection_text-in-Err.ensures.cause)
    c.in_ok-rejection_text-in-Err.ensures.text refl
