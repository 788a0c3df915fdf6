use Rattle.std.proofs.Common.{◌∙◌, refl}
use Rattle.sf_precise.proofs.Adding.{adds-job_at, ready-as_was, ready-insert}
use Rattle.sf_precise.specs.Checked.Work.{is_ready}
use Rattle.sf_precise.proofs.work.Work.add.Goals as goal

pub returns-in_ok-insert : goal.returns-in_ok-insert
returns-in_ok-insert c =
    adds-job_at (record { need = c.args.demand.now.need; waits = c.args.demand.now.waits.items })
    c.args.self.now _ c.len-i.result (c.len-i.ensures ∙ c.args.self.now.lacking.ok.0)
    c.in_ok-push.ensures.items (rw c.deref.ensures.value at c.in_ok-add_waits.ensures)
    (λ i. c.in_ok-insert.ensures.updates.0 i ∙ ready-insert
    (is_ready c.args.self.now i) c.args.demand.now.need c.len-i.result c.len-i.result i
    c.if-demand-eq0.true refl)

pub returns-else-demand-eq0 : goal.returns-else-demand-eq0
returns-else-demand-eq0 c =
    adds-job_at (record { need = c.args.demand.now.need; waits = c.args.demand.now.waits.items })
    c.args.self.now _ c.len-i.result (c.len-i.ensures ∙ c.args.self.now.lacking.ok.0)
    c.in_ok-push.ensures.items (rw c.deref.ensures.value at c.in_ok-add_waits.ensures)
    (λ i. ready-as_was (is_ready c.args.self.now i) c.args.demand.now.need c.len-i.result i
    c.if-demand-eq0.false)
