use Rattle.sf_base.specs.HeapStore.{own}
use Rattle.sf_frame.specs.Stores.{store_of}
use Rattle.sf_frame.proofs.Endings.{values_more}
use Rattle.sf_frame.proofs.ending.own_values.Goals as goal

pub loop-i-preserved : goal.loop-i-preserved
loop-i-preserved c = values_more (store_of c.args.store.now) (λ k. own 0 k) c.loop-i.i c.loop-i.values.items
    c.push.new.self.items c.get.result c.loop-i.invariant c.get.ensures c.in_ok-push.ensures.items
