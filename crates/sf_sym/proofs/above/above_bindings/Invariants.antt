use Rattle.std.specs.Prelude.{◌⊎◌}
use Rattle.std.proofs.Common.{◌≡◌, ◌≤◌, ℕ, None, Some, get_or, length}
use Rattle.sf_sym.specs.Below.{IsBelow}
use Rattle.sf_sym.specs.declared.term.Term.{Term}
use Rattle.sf_sym.proofs.above.above_bindings.Given as goal

abbrev pub invariant-loop-first : goal.invariant-loop-first
invariant-loop-first l = record {
  least : l.initial.least ≤ l.above;
  below : (m : ℕ) (t : Term) → get_or l.initial.bindings m None ≡ Some t
      → IsBelow l.above t ⊎ ((k : ℕ) × (get_or l.left k None ≡ Some t));
}

abbrev pub decreases-loop-first : goal.decreases-loop-first
decreases-loop-first l = length l.left
