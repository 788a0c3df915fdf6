use Rattle.std.proofs.Common.{◌≡◌, map, take}
use Rattle.sf_core.specs.Program.View.{conjunct_of}
use Rattle.sf_sym.proofs.copy.+copies.Given as goal

abbrev pub invariant-copy_conjuncts-loop-c : goal.invariant-copy_conjuncts-loop-c
invariant-copy_conjuncts-loop-c l =
    map conjunct_of l.copies.items ≡ map conjunct_of (take l.c-index l.from)
