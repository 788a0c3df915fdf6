use Rattle.std.proofs.Common.{◌≡◌, ◌++◌, map, length}
use Rattle.sf_sym.specs.Checked.Empties.{empties}
use Rattle.sf_sym.specs.Equalities.{numbered_with, put_for}
use Rattle.sf_sym.specs.Numbers.{AreRising, numbers}
use Rattle.sf_sym.proofs.atoms.Atoms.empty_with.Given as goal

abbrev pub invariant-loop-a : goal.invariant-loop-a
invariant-loop-a l = record {
  done : l.empty.keys ++ empties (map (numbered_with (put_for l.r.symbol l.r.by)) l.left)
      ≡ empties (map (numbered_with (put_for l.r.symbol l.r.by)) l.self);
  rising : AreRising (l.empty.keys ++ numbers l.left);
}

abbrev pub decreases-loop-a : goal.decreases-loop-a
decreases-loop-a l = length l.left
