use Rattle.std.proofs.Common.{◌<◌}
use Rattle.sf_calls.specs.Sets.{IsSetOf, IsEarlierResource}
use Rattle.sf_calls.proofs.keys.resources_of.Given as goal

-- those so far
abbrev pub invariant-loop-i : goal.invariant-loop-i
invariant-loop-i l = IsSetOf IsEarlierResource (λ r. r.0 < l.i) l.found.items
