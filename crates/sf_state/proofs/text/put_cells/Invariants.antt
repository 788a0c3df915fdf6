use Rattle.std.proofs.Common.{◌≡◌, ◌++◌, drop}
use Rattle.std.specs.FinMap as map
use Rattle.sf_state.specs.StateText.{cell_lines}
use Rattle.sf_state.proofs.text.put_cells.Given as goal

abbrev pub invariant-loop-location : goal.invariant-loop-location
invariant-loop-location l = l.fn.text.items ++ cell_lines l.fields (map.get l.heap) l.at
    ≡ l.text.items ++ cell_lines l.fields (map.get l.heap) (drop l.location-index l.at)
