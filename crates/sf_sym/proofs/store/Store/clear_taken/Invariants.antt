use Rattle.std.proofs.Common.{◌≡◌, length}
use Rattle.sf_sym.specs.Checked.Stores.{Kept, heap}
use Rattle.sf_sym.proofs.store.Store.clear_taken.Given as goal

abbrev pub invariant-loop-part : goal.invariant-loop-part
invariant-loop-part l = record {
  kept : Kept l.self;
  same : heap l.self ≡ record (heap l.fn.self) { taken = l.self.taken.items };
}

abbrev pub decreases-loop-part : goal.decreases-loop-part
decreases-loop-part l = length l.self.taken.items
