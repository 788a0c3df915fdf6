use Rattle.std.proofs.Common.{◌≡◌, take}
use Rattle.sf_precise.proofs.ordering.copy_names.Given as goal

-- those so far
abbrev pub invariant-loop-name : goal.invariant-loop-name
invariant-loop-name l = l.copy.items ≡ take l.name-index l.names
