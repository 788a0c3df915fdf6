use Rattle.std.proofs.Common.{◌≡◌, drop, map, ◌++◌}
use Rattle.sf_core.specs.Program.Heads.{conjuncts_occurrences}
use Rattle.sf_core.specs.Program.View.{conjunct_of, conjuncts}
use Rattle.sf_core.proofs.heads.+occurrences.Given as goal

-- those so far and those of what is left are all
abbrev pub invariant-add_conjuncts-loop-c : goal.invariant-add_conjuncts-loop-c
invariant-add_conjuncts-loop-c l =
    l.found.items ++ conjuncts_occurrences (conjuncts (map conjunct_of (drop l.c-index l.cs)))
    ≡ l.initial.found.items ++ conjuncts_occurrences (conjuncts (map conjunct_of l.cs))
