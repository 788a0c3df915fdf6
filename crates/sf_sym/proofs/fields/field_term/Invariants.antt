use Rattle.std.proofs.Common.{◌≡◌, length}
use Rattle.sf_sym.specs.Fields.{field_term}
use Rattle.sf_sym.proofs.fields.field_term.Given as goal

abbrev pub invariant-loop-first : goal.invariant-loop-first
invariant-loop-first l = field_term l.fields l.f ≡ field_term l.left l.f

abbrev pub decreases-loop-first : goal.decreases-loop-first
decreases-loop-first l = length l.left
