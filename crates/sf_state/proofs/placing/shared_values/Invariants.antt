use Rattle.std.proofs.Common.{◌≡◌, ◌++◌, drop, map}
use Rattle.sf_core.specs.Program.View.{resource_of}
use Rattle.sf_state.specs.Starts.{by_resource}
use Rattle.sf_state.proofs.placing.shared_values.Given as goal

-- with those that are left, the values so far are all
abbrev pub invariant-loop-resource : goal.invariant-loop-resource
invariant-loop-resource l = map (λ vs. vs.items) l.shared.items
    ++ by_resource (drop l.resource-index (map resource_of l.resources)) l.left
    ≡ by_resource (map resource_of l.resources) l.values
