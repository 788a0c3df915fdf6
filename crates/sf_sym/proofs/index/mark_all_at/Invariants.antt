use Rattle.std.proofs.Common.{◌⊎◌, length}
use Rattle.sf_sym.specs.declared.outline.Row.{Row}
use Rattle.sf_sym.specs.declared.term.Term.{Term}
use Rattle.sf_sym.specs.Checked.Keeping.{AreMarksAlso, HasMark, In, StillMarked}
use Rattle.sf_sym.specs.Checked.Rows.{rows_at}
use Rattle.sf_sym.proofs.index.mark_all_at.Given as goal

abbrev pub invariant-loop-term : goal.invariant-loop-term
invariant-loop-term l = record {
  done : (t : Term) → In t l.terms → In t l.left ⊎ ((r : Row) → In r (rows_at l.roots t) → HasMark l.marks r);
  still : StillMarked l.fn.marks l.marks;
  only : AreMarksAlso l.roots l.fn.marks l.marks;
}

abbrev pub decreases-loop-term : goal.decreases-loop-term
decreases-loop-term l = length l.left
