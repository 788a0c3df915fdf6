use Rattle.std.proofs.Common.{inl, inr}
use Rattle.sf_base.proofs.Results.{ok-both}
use Rattle.sf_cli.specs.Replayed.{no_schedule}
use Rattle.sf_cli.proofs.replay.answer_to_schedule.Goals as goal

pub returns-in-Err : goal.returns-in-Err
returns-in-Err c =
    ok-both c.say_no_schedule.result _ _ _
    (λ said s n. elim c.in-Err.ensures.read [
      | inl e ↦ absurd (n e)
      | inr r ↦ no_schedule c.in-Err.fault r s.0 s.1
    ]) c.say_no_schedule.ensures.said c.say_no_schedule.ensures.cause
