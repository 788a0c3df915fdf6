use Rattle.std.proofs.Common.{◌≢◌, ◌<◌, map, slice_get, Some, ℕ}
use Rattle.sf_core.proofs.program.procedure_named.Given as goal

-- no procedure so far has that name
abbrev pub invariant-loop-i : goal.invariant-loop-i
invariant-loop-i l = (k : ℕ) → k < l.i → slice_get (map (λ f. f.name) l.procedures) k ≢ Some l.name
