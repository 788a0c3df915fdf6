use Rattle.std.proofs.Common.{◌∙◌, ap}
use Rattle.std.specs.FinMap as fin
use Rattle.sf_state.proofs.Placed.{placing-all, placing-more, placing-none}
use Rattle.sf_state.proofs.placing.heap_of.Goals as goal

-- nothing is in the heap yet
pub loop-location-init : goal.loop-location-init
loop-location-init c =
    placing-none c.args.cells c.new-heap.result c.in_ok-at.at.items c.new-heap.ensures c.in_ok-at.ensures.items

-- one more cell is
pub loop-location-preserved : goal.loop-location-preserved
loop-location-preserved c =
    placing-more c.args.cells c.loop-location.cells c.pop_first.new.self c.loop-location.heap c.put_new.new.heap
    c.loop-location.at.items c.push.new.self.items c.in-Some.location c.in-Some.cell c.loop-location.invariant
    c.in-Some.ensures.value c.in-Some.ensures.updates.0
    c.in_ok-put_new.ensures.ok c.in_ok-push.ensures.items

pub returns-clause-cells : goal.returns-clause-cells
returns-clause-cells c =
    placing-all c.args.cells c.loop-location.cells c.loop-location.heap c.loop-location.at.items
    c.loop-location.invariant c.in_default.ensures.variant.1

pub returns-clause-at : goal.returns-clause-at
returns-clause-at c = λ l. (
  (λ h. (c.from_vec.ensures.same l).1 ((c.loop-location.invariant.placed l).0 h)),
  (λ h. (c.loop-location.invariant.placed l).1 ((c.from_vec.ensures.same l).0 h)),
)
