use Rattle.std.proofs.Common.{◌≡◌, ℕ, [], length, slice_get}
use Rattle.sf_foot.specs.Variables.{values_or_none}
use Rattle.sf_part.proofs.share.empty_rows.Given as goal

-- so many rows so far, all empty
abbrev pub invariant-loop-q : goal.invariant-loop-q
invariant-loop-q l = (length l.rows.items ≡ l._q)
    × ((k : ℕ) → values_or_none (slice_get l.rows.items k) ≡ [])
