use Rattle.std.proofs.Common.{◌≡◌, map, Some}
use Rattle.sf_region.proofs.regions.filled.Given as goal

abbrev pub invariant-loop-content : goal.invariant-loop-content
invariant-loop-content l = l.slots.items ≡ map Some l.yielded
