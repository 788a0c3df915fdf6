use Rattle.std.proofs.Common.{◌≡◌, drop, ◌++◌}
use Rattle.sf_core.proofs.heads.add_call_occurrences.Given as goal

-- those so far and those that are left are all
abbrev pub invariant-loop-x : goal.invariant-loop-x
invariant-loop-x l =
    l.found.items ++ drop l.x-index l.call.references.items ≡ l.initial.found.items ++ l.call.references.items
