use Rattle.std.proofs.Common.{◌≡◌, drop, ◌++◌}
use Rattle.std.specs.List.{flat_map}
use Rattle.sf_core.specs.Program.Heads.{expr_occurrences}
use Rattle.sf_core.proofs.heads.add_values.Given as goal

-- those so far and those of what is left are all
abbrev pub invariant-loop-e : goal.invariant-loop-e
invariant-loop-e l =
    l.found.items ++ flat_map expr_occurrences (drop l.e-index l.values) ≡ l.initial.found.items
    ++ flat_map expr_occurrences l.values
