use Rattle.std.proofs.Common.{◌≡◌, ◌++◌, List, map, length}
use Rattle.sf_sym.specs.declared.outline.Row.{Row}
use Rattle.sf_sym.specs.Checked.Keeping.{rows_of}
use Rattle.sf_sym.specs.Checked.Stores.{MakesOf}
use Rattle.sf_sym.specs.Equalities.{numbered_with, put_for}
use Rattle.sf_sym.proofs.index.Index.enter_all.Given as goal

abbrev pub invariant-loop-a : goal.invariant-loop-a
invariant-loop-a l =
    (l.self.marks ≡ l.fn.self.marks)
    × ((done : List Row) × MakesOf l.apart done l.fn.self.roots l.fn.self.cells l.self.roots l.self.cells
    × (done ++ rows_of (map (numbered_with (put_for l.r.symbol l.r.by)) l.left)
    ≡ rows_of (map (numbered_with (put_for l.r.symbol l.r.by)) l.atoms)))

abbrev pub decreases-loop-a : goal.decreases-loop-a
decreases-loop-a l = length l.left
