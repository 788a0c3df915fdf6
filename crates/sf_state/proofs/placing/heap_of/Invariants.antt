use Rattle.std.specs.BTreeMap.{btree_map_len}
use Rattle.sf_state.specs.Checked.Placing.{Placing}
use Rattle.sf_state.proofs.placing.heap_of.Given as goal

-- the cells are in the heap or are left
abbrev pub invariant-loop-location : goal.invariant-loop-location
invariant-loop-location l = Placing l.fn.cells l.cells l.heap l.at.items

abbrev pub decreases-loop-location : goal.decreases-loop-location
decreases-loop-location l = btree_map_len l.cells
