use Rattle.std.proofs.Common.{◌≡◌, ◌++◌, drop}
use Rattle.sf_precise.specs.Checked.Outer.{field_existentials}
use Rattle.sf_precise.proofs.outer.add_of_fields.Given as goal

-- those so far and those of what is left are all
abbrev pub invariant-loop-f : goal.invariant-loop-f
invariant-loop-f l =
    l.found.items ++ field_existentials (drop l.f-index l.fields) ≡ l.initial.found.items
    ++ field_existentials l.fields
