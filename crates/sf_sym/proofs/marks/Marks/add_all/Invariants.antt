use Rattle.std.proofs.Common.{◌⊎◌, length}
use Rattle.sf_sym.specs.declared.outline.Row.{Row}
use Rattle.sf_sym.specs.Checked.Keeping.{AreMarksWith, HasMark, In, StillMarked}
use Rattle.sf_sym.proofs.marks.Marks.add_all.Given as goal

abbrev pub invariant-loop-row : goal.invariant-loop-row
invariant-loop-row l = record {
  left : (r : Row) → In r l.left → In r l.fn.rows;
  done : (r : Row) → In r l.fn.rows → In r l.left ⊎ HasMark l.self r;
  still : StillMarked l.fn.self l.self;
  only : AreMarksWith l.fn.rows l.fn.self l.self;
}

abbrev pub decreases-loop-row : goal.decreases-loop-row
decreases-loop-row l = length l.left
