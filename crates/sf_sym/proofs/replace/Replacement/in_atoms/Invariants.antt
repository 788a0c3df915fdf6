use Rattle.std.proofs.Common.{◌≡◌, ◌++◌, map, take, drop}
use Rattle.sf_sym.specs.Equalities.{numbered_with, put_for}
use Rattle.sf_sym.proofs.replace.Replacement.in_atoms.Given as goal

abbrev pub invariant-loop-a : goal.invariant-loop-a
invariant-loop-a l =
    l.atoms ≡ map (numbered_with (put_for l.self.symbol l.self.by)) (take l.a-index l.initial.atoms) ++ drop l.a-index l.initial.atoms
