use Rattle.std.proofs.Common.{ℕ}
use Rattle.sf_calls.specs.Checked.Gathers.{IsUpTo}
use Rattle.sf_calls.specs.Sets.{IsSetOf, IsEarlier}
use Rattle.sf_calls.proofs.keys.add_variables.Given as goal

-- those so far
abbrev pub invariant-loop-i : goal.invariant-loop-i
invariant-loop-i l =
    (counts : ℕ → ℕ) → IsSetOf IsEarlier (IsUpTo counts l.r.0 0) l.initial.found.items
    → IsSetOf IsEarlier (IsUpTo counts l.r.0 l.i) l.found.items
