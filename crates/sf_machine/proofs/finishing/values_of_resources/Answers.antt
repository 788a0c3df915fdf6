use Rattle.std.proofs.Common.{subst, refl}
use Rattle.sf_base.specs.HeapStore.{shared}
use Rattle.sf_frame.specs.Checked.Endings.{AreValues}
use Rattle.sf_frame.specs.Checked.Resources.{counts_of}
use Rattle.sf_frame.specs.Stores.{store_of}
use Rattle.sf_machine.proofs.Endings.{rows_more}
use Rattle.sf_machine.proofs.finishing.values_of_resources.Goals as goal

-- the rows so far, and that of the resource
pub loop-r-preserved : goal.loop-r-preserved
loop-r-preserved c =
    rows_more (store_of c.args.store.now) (counts_of c.args.p.now.resources.items) c.loop-r.r
    c.loop-r.rows.items c.push.new.self.items c.in_ok-values.values (record { 0 = c.loop-r.r }) refl
    c.loop-r.invariant
    (subst (λ n. AreValues (store_of c.args.store.now) (shared (record { 0 = c.loop-r.r })) n c.in_ok-values.values.items)
    c.variable_count-count.ensures.count c.in_ok-values.ensures) c.in_ok-push.ensures.items
