use Rattle.std.proofs.Common.{◌⊎◌, map, length}
use Rattle.sf_sym.specs.declared.outline.Row.{Row}
use Rattle.sf_sym.specs.Checked.Keeping.{AreMarksWith, HasMark, In, StillMarked, rows_of}
use Rattle.sf_sym.specs.Equalities.{numbered_with, put_for}
use Rattle.sf_sym.proofs.marks.Marks.add_atoms.Given as goal

abbrev pub invariant-loop-a : goal.invariant-loop-a
invariant-loop-a l = record {
  left : (r : Row) → In r (rows_of (map (numbered_with (put_for l.r.symbol l.r.by)) l.left))
      → In r (rows_of (map (numbered_with (put_for l.r.symbol l.r.by)) l.fn.atoms));
  done : (r : Row) → In r (rows_of (map (numbered_with (put_for l.r.symbol l.r.by)) l.fn.atoms))
      → In r (rows_of (map (numbered_with (put_for l.r.symbol l.r.by)) l.left)) ⊎ HasMark l.self r;
  still : StillMarked l.fn.self l.self;
  only : AreMarksWith (rows_of (map (numbered_with (put_for l.r.symbol l.r.by)) l.fn.atoms)) l.fn.self l.self;
}

abbrev pub decreases-loop-a : goal.decreases-loop-a
decreases-loop-a l = length l.left
