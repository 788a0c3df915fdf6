use Rattle.std.proofs.Common.{ap, refl}
use Rattle.sf_base.specs.HeapStore.{Store as S}
use Rattle.sf_frame.specs.Stores.{store_of}
use Rattle.sf_heap.specs.Cells.{heap_of}
use Rattle.sf_part.proofs.Regained.{three-first}
use Rattle.sf_part.proofs.back.take_back.Goals as goal

pub returns-in-Err-clause-err : goal.returns-in-Err-clause-err
returns-in-Err-clause-err c =
    let back = three-first (store_of c.copy_in.new.store) (store_of c.args.shared.now.store)
    (store_of c.args.left.now.store) (store_of c.args.right.now.store) (store_of c.cut.new.self)
    (store_of c.cut-in-Err.new.self) c.in_ok-copy_in.ensures.ok c.cut.ensures
    c.cut-in-Err.ensures in
    record {
      heap = λ location. ap (λ z. heap_of z location) c.in-Err.ensures.err;
      store = λ slot. ap (λ (z : S). z slot) back;
      held = λ r. refl;
    }
