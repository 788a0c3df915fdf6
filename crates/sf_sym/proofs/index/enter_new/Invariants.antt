use Rattle.std.proofs.Common.{◌≡◌, ◌⊎◌, true, length}
use Rattle.sf_sym.specs.declared.outline.Row.{Row}
use Rattle.sf_sym.specs.Checked.Keeping.{EntersOf, Has, In, IsThere, gets_cell}
use Rattle.sf_sym.proofs.index.enter_new.Given as goal

abbrev pub invariant-loop-row : goal.invariant-loop-row
invariant-loop-row l = record {
  left : (r : Row) → In r l.left → In r l.rows;
  done : (c : Row) → In c l.rows → In c l.left ⊎ (gets_cell l.apart l.pair c ≡ true → IsThere l.cells c);
  still : Has l.fn.cells l.cells;
  only : EntersOf l.rows l.fn.cells l.cells;
}

abbrev pub decreases-loop-row : goal.decreases-loop-row
decreases-loop-row l = length l.left
