use Rattle.std.proofs.Common.{drop, map}
use Rattle.sf_core.specs.Assertions.Sat.{value}
use Rattle.sf_core.specs.Program.View.{conjunct_of, conjuncts}
use Rattle.sf_foot.specs.Checked.Taking.{ConjunctsLeft}
use Rattle.sf_foot.specs.Variables.{value_of}
use Rattle.sf_foot.proofs.taking.+taking.Given as goal

-- what the conjuncts that are left take comes after what was taken
abbrev pub invariant-take_all-loop-c : goal.invariant-take_all-loop-c
invariant-take_all-loop-c l = ConjunctsLeft l.heap (value (value_of l.vars)) l.initial.known l.initial.found.items
    (conjuncts (map conjunct_of l.cs)) l.known l.found.items (conjuncts (map conjunct_of (drop l.c-index l.cs)))
