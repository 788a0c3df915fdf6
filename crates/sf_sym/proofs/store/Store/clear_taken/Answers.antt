use Rattle.std.proofs.Common.{ap}
use Rattle.sf_sym.specs.Checked.Stores.{Heap, heap}
use Rattle.sf_sym.proofs.Stores.{store-popped}
use Rattle.sf_sym.proofs.store.Store.clear_taken.Goals as goal

pub loop-part-preserved : goal.loop-part-preserved
loop-part-preserved c =
    let s = c.loop-part.self in
    let i = c.forget.new.index in
    record {
      kept = store-popped (heap s) s.above s.index.roots s.index.cells s.index.marks c.loop-part.invariant.kept c.pop.new.self.items
          c.in-Some.part c.in-Some.ensures.items i.roots i.cells i.marks c.forget.ensures;
      same = ap (λ (h : Heap). record h { taken = c.pop.new.self.items }) c.loop-part.invariant.same;
    }
