use Rattle.std.proofs.Common.{◌≡◌, drop, ◌++◌}
use Rattle.std.specs.List.{flat_map}
use Rattle.sf_core.specs.Program.Heads.{operand_occurrences}
use Rattle.sf_core.proofs.heads.add_fields.Given as goal

-- those so far and those of what is left are all
abbrev pub invariant-loop-f : goal.invariant-loop-f
invariant-loop-f l =
    l.found.items ++ flat_map (λ f. operand_occurrences f.1) (drop l.f-index l.fields)
    ≡ l.initial.found.items ++ flat_map (λ f. operand_occurrences f.1) l.fields
