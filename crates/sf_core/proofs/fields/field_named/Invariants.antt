use Rattle.std.proofs.Common.{◌≢◌, ◌<◌, slice_get, Some, ℕ}
use Rattle.sf_core.proofs.fields.field_named.Given as goal

-- no field so far has that name
abbrev pub invariant-loop-i : goal.invariant-loop-i
invariant-loop-i l = (k : ℕ) → k < l.i → slice_get l.fields k ≢ Some l.name
