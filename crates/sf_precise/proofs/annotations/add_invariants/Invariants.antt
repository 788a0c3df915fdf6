use Rattle.std.proofs.Common.{◌≡◌, ◌++◌, drop, map}
use Rattle.sf_core.specs.Program.View.{assertion_of, resource_of}
use Rattle.sf_precise.proofs.annotations.add_invariants.Given as goal

-- those so far and those of what is left are all
abbrev pub invariant-loop-resource : goal.invariant-loop-resource
invariant-loop-resource l =
    map (λ a. assertion_of a.now) l.notes.items
    ++ map (λ r. r.invariant) (map resource_of (drop l.resource-index l.resources))
    ≡ map (λ a. assertion_of a.now) l.initial.notes.items
    ++ map (λ r. r.invariant) (map resource_of l.resources)
