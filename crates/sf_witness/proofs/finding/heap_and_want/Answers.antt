use Rattle.sf_heap.specs.Cells.{heap_of}
use Rattle.sf_witness.proofs.Heaps.{first-atoms, then-atoms}
use Rattle.sf_witness.proofs.finding.heap_and_want.Goals as goal

pub left_has-requires : goal.left_has-requires
left_has-requires c =
    first-atoms c.new-heap.result (heap_of c.add_atoms.new.heap) c.links.result c.args.goal.now.state.links
    c.atoms.result.now c.args.goal.now.state.atoms c.new-heap.ensures c.in_ok-add_atoms.ensures c.links.ensures
    c.atoms.ensures

pub whole_has-holds-requires : goal.whole_has-holds-requires
whole_has-holds-requires c =
    then-atoms (heap_of c.add_atoms.new.heap) (heap_of c.add_atoms-2.new.heap) c.links-2.result
    c.args.goal.now.state.links c.args.goal.now.state.atoms c.taken.result.now c.args.goal.now.state.taken
    (first-atoms c.new-heap.result (heap_of c.add_atoms.new.heap) c.links.result c.args.goal.now.state.links
    c.atoms.result.now c.args.goal.now.state.atoms c.new-heap.ensures c.in_ok-add_atoms.ensures c.links.ensures
    c.atoms.ensures) c.in_ok-add_atoms-2.ensures c.links-2.ensures c.taken.ensures

pub returns-clause-heap : goal.returns-clause-heap
returns-clause-heap c =
    then-atoms (heap_of c.add_atoms.new.heap) (heap_of c.add_atoms-2.new.heap) c.links-2.result
    c.args.goal.now.state.links c.args.goal.now.state.atoms c.taken.result.now c.args.goal.now.state.taken
    (first-atoms c.new-heap.result (heap_of c.add_atoms.new.heap) c.links.result c.args.goal.now.state.links
    c.atoms.result.now c.args.goal.now.state.atoms c.new-heap.ensures c.in_ok-add_atoms.ensures c.links.ensures
    c.atoms.ensures) c.in_ok-add_atoms-2.ensures c.links-2.ensures c.taken.ensures
