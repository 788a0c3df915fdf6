use Rattle.std.proofs.Common.{◌≡◌, drop, map, ◌++◌}
use Rattle.sf_core.specs.Program.View.{conjunct_of, conjuncts}
use Rattle.sf_elab.specs.declared.fault.Fault.TheVariants.{InitShape}
use Rattle.sf_elab.specs.Bodies.Shape.{conjunct_places}
use Rattle.sf_elab.proofs.shape.add_conjuncts.Given as goal

-- those so far and those of what is left are all
abbrev pub invariant-loop-c : goal.invariant-loop-c
invariant-loop-c l =
    l.found.items ++ map InitShape (conjunct_places (conjuncts (map conjunct_of (drop l.c-index l.cs))))
    ≡ l.initial.found.items ++ map InitShape (conjunct_places (conjuncts (map conjunct_of l.cs)))
