-- Whether a determined assertion has a footprint in a heap with finitely many cells.
-- Names: `decided-by_order`, `footprint-decided`.
use Rattle.std.proofs.Common.{ℕ, ◌⊎◌, inl, inr}
use Rattle.sf_base.specs.declared.ids.Var.{Var}
use Rattle.sf_base.specs.declared.value.Value.{Value}
use Rattle.sf_base.specs.declared.value.Value.TheVariants.{Nil as nil}
use Rattle.sf_base.specs.HeapStore.{Heap}
use Rattle.sf_core.specs.declared.command.Expr.{Expr}
use Rattle.sf_core.specs.Assertions.Determined.{Determined}
use Rattle.sf_core.specs.Program.Syntax.{Level}
use Rattle.sf_precise.specs.Checked.Laws.{DeterminedHasOrder, OrderKeepsMeaning, OrderedIsDetermined}
use Rattle.sf_precise.specs.Order.{IsOrderOfLevel}
use Rattle.sf_heap.specs.Cells.{Cells, heap_of}
use Rattle.sf_foot.specs.Checked.Laws.{FootprintIsDecided, HasFootprintOrNone}

-- an assertion that has an order, which means the same, has a footprint or has none where the order does
decided-by_order : OrderKeepsMeaning → (a o : Level Expr) (vars : Var → Value) (heap : Heap) → IsOrderOfLevel a o
    → HasFootprintOrNone o vars heap → HasFootprintOrNone a vars heap
decided-by_order keeps a o vars heap ord (inl f) = inl (
  f.0,
  record {
    part = f.1.part;
    foot = record {
      rest = f.1.foot.rest;
      splits = f.1.foot.splits;
      sat = (keeps a o vars (λ n. nil) f.1.part ord).1 f.1.foot.sat;
    };
    at = f.1.at;
  },
  f.2,
)
decided-by_order keeps a o vars heap ord (inr out) = inr (λ part f. out part (record {
  rest = f.rest;
  splits = f.splits;
  sat = (keeps a o vars (λ n. nil) part ord).0 f.sat;
}))

-- a determined assertion has an order
pub footprint-decided : DeterminedHasOrder → OrderedIsDetermined → OrderKeepsMeaning → FootprintIsDecided
    → (a : Level Expr) (vars : Var → Value) (heap : Cells) → Determined a → HasFootprintOrNone a vars (heap_of heap)
unfolding FootprintIsDecided
footprint-decided orders ordered keeps decided a vars heap d =
    let o = orders a d in
    decided-by_order keeps a o.0 vars (heap_of heap) o.1 (decided o.0 vars heap (ordered a o.0 o.1).1)
