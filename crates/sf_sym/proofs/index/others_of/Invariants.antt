use Rattle.std.proofs.Common.{◌≡◌, ◌⊎◌, Some, length}
use Rattle.sf_sym.specs.declared.outline.Row.{Row}
use Rattle.sf_sym.specs.declared.term.Term.{Term}
use Rattle.sf_sym.specs.Checked.Keeping.{In, other_root}
use Rattle.sf_sym.specs.Checked.Rows.{bare}
use Rattle.sf_sym.proofs.index.others_of.Given as goal

abbrev pub invariant-loop-row : goal.invariant-loop-row
invariant-loop-row l = (c : Row) → In c l.rows
    → In c l.left ⊎ ((t : Term) → other_root l.at (bare c.outline) ≡ Some t → In t l.others.keys)

abbrev pub decreases-loop-row : goal.decreases-loop-row
decreases-loop-row l = length l.left
