use Rattle.sf_heap.specs.Cells.{heap_of}
use Rattle.sf_part.proofs.Regained.{back-swap, three-swap}
use Rattle.sf_part.proofs.back.join_heaps.Goals as goal

pub join_smaller-requires-2 : goal.join_smaller-requires-2
join_smaller-requires-2 c = (
  (c.requires).0,
  three-swap (c.requires).0 (heap_of c.args.heap.now) (heap_of c.args.left)
      (heap_of c.args.right) (c.requires).1,
)

pub returns-in-Ok-clause-ok : goal.returns-in-Ok-clause-ok
returns-in-Ok-clause-ok c =
    back-swap c.args.heap.now c.args.right c.args.left c.join_smaller-2.new.heap
    c.in-Ok.ensures.ok
