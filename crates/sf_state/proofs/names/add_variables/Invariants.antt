use Rattle.std.proofs.Common.{◌≡◌, ◌++◌, drop, map}
use Rattle.sf_state.specs.Names.{qualified}
use Rattle.sf_state.proofs.names.add_variables.Given as goal

abbrev pub invariant-loop-name : goal.invariant-loop-name
invariant-loop-name l = l.fn.to.items ++ map (qualified l.r.name) l.name-items
    ≡ l.to.items ++ map (qualified l.r.name) (drop l.name-index l.name-items)
