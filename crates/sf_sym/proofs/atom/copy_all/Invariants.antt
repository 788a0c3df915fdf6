use Rattle.std.proofs.Common.{◌≡◌, take}
use Rattle.sf_sym.proofs.atom.copy_all.Given as goal

abbrev pub invariant-loop-a : goal.invariant-loop-a
invariant-loop-a l = l.copies.items ≡ take l.a-index l.atoms
