use Rattle.std.proofs.Common.{◌<◌}
use Rattle.sf_state_bench.proofs.texts.listed.Given as goal

-- the location is one of the first 2^32
abbrev pub invariant-loop-i : goal.invariant-loop-i
invariant-loop-i l = l.here < 4294967296
