use Rattle.sf_calls.specs.Checked.Lemmas.Searches.{visit_new, visit_old}
use Rattle.sf_run.proofs.sequential.visit.Goals as goal

pub returns-in_ok-push : goal.returns-in_ok-push
returns-in_ok-push c =
    rw c.in_ok-push.ensures.items
    (visit_new _ _ c.args.f c.index.result.now c.requires c.index.ensures c.if-not-index.true)

pub returns-else-not-index : goal.returns-else-not-index
returns-else-not-index c =
    visit_old _ _ c.args.f c.index.result.now c.requires c.index.ensures c.if-not-index.false
