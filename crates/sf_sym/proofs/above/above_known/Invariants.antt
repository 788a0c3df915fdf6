use Rattle.std.proofs.Common.{◌≡◌, ◌++◌, ◌≤◌, List, length}
use Rattle.sf_base.specs.declared.ids.FieldId.{FieldId}
use Rattle.sf_sym.specs.Below.{AllPaired, IsBelow}
use Rattle.sf_sym.specs.declared.term.Term.{Term}
use Rattle.sf_sym.proofs.above.above_known.Given as goal

abbrev pub invariant-loop-first : goal.invariant-loop-first
invariant-loop-first l =
    (l.initial.least ≤ l.above)
    × ((done : List (FieldId × Term)) × (done ++ l.left ≡ l.initial.fields) × AllPaired (IsBelow l.above) done)

abbrev pub decreases-loop-first : goal.decreases-loop-first
decreases-loop-first l = length l.left
