use Rattle.std.proofs.Common.{ap, refl, subst}
use Rattle.sf_base.specs.HeapStore.{Map, Slot, Splits}
use Rattle.sf_base.specs.declared.value.Value.{Value}
use Rattle.sf_frame.specs.Stores.{store_of}
use Rattle.sf_heap.specs.Cells.{heap_of}
use Rattle.sf_part.proofs.Taking.{taking-back, taking-copy}
use Rattle.sf_part.proofs.entering.take_in.Goals as goal

pub returns-in-Ok-join-clause-ok : goal.returns-in-Ok-join-clause-ok
returns-in-Ok-join-clause-ok c = record {
  heap = c.in-Ok-join.ensures.heaps;
  store = subst (λ (z : Map Slot Value). Splits (store_of c.join.new.self)
      (store_of c.args.shared.now.store) z)
      (taking-copy c.args.content.store c.in-Ok.copy c.args.spots.now c.requires.spots
      c.in-Ok.ensures)
      c.in_default-join.ensures.ok;
  held = refl;
}

pub returns-in-Err-join-clause-err : goal.returns-in-Err-join-clause-err
returns-in-Err-join-clause-err c =
    let back = taking-back (store_of c.args.shared.now.store) (store_of c.args.content.store)
    (store_of c.join.new.self) (store_of c.in-Ok.copy) (store_of c.cut.new.self)
    (taking-copy c.args.content.store c.in-Ok.copy c.args.spots.now c.requires.spots
    c.in-Ok.ensures)
    c.in_default-join.ensures.ok c.cut.ensures in
    record {
      heap = λ location. ap (λ z. heap_of z location) c.in-Err-join.ensures.err;
      store = λ slot. ap (λ (z : Map Slot Value). z slot) back;
      held = λ r. refl;
    }
