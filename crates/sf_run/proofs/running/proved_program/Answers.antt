use Rattle.std.proofs.Common.{subst, sym}
use Rattle.sf_check.specs.Accepted.{tags_in}
use Rattle.sf_check.specs.Proven.{Proven}
use Rattle.sf_precise.specs.declared.arranged.Arranged.{Arranged}
use Rattle.sf_run.proofs.Proved.{proved-accepted}
use Rattle.sf_run.proofs.running.proved_program.Goals as goal

pub returns-clause-accepted : goal.returns-clause-accepted
returns-clause-accepted c =
    proved-accepted c.proved_bodies_are_safe.ensures c.conditions_from_truncation.ensures
    c.sets_from_truncation.ensures c.orders_from_truncation.ensures c.ordered_is_determined.ensures
    c.arranged.result.now (tags_in c.args.proof.now)
    (subst (λ (a : Arranged). Proven a (tags_in c.args.proof.now)) (sym c.arranged.ensures)
    c.proves.ensures)
