use Rattle.std.specs.Prelude.{◌⊎◌}
use Rattle.std.proofs.Common.{◌≤◌, length}
use Rattle.sf_core.specs.Assertions.Occurs.{OccursInFields}
use Rattle.sf_core.specs.declared.assertion.Operand.TheVariants.{Known}
use Rattle.sf_sym.specs.Below.{IsBelow}
use Rattle.sf_sym.specs.declared.term.Term.{Term}
use Rattle.sf_sym.proofs.above.above_fields.Given as goal

abbrev pub invariant-loop-first : goal.invariant-loop-first
invariant-loop-first l = record {
  least : l.initial.least ≤ l.above;
  below : (t : Term) → OccursInFields l.initial.fields (Known t)
      → IsBelow l.above t ⊎ OccursInFields l.left (Known t);
}

abbrev pub decreases-loop-first : goal.decreases-loop-first
decreases-loop-first l = length l.left
