use Rattle.std.proofs.Common.{◌≡◌, ◌++◌, map, take, drop}
use Rattle.sf_core.specs.Program.View.{conjunct_of}
use Rattle.sf_sym.specs.Equalities.{put_for}
use Rattle.sf_sym.specs.Mapped.{conjunct_with}
use Rattle.sf_sym.proofs.replace.Replacement.+replaced.Given as goal

abbrev pub invariant-in_conjuncts-loop-i : goal.invariant-in_conjuncts-loop-i
invariant-in_conjuncts-loop-i l = record {
  unvisited : goal.unvisited-in_conjuncts-loop-i l;
  replaced : map conjunct_of l.cs ≡ map (conjunct_with (put_for l.self.symbol l.self.by))
      (take l.i (map conjunct_of l.initial.cs)) ++ drop l.i (map conjunct_of l.initial.cs);
}
