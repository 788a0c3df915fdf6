use Rattle.std.proofs.Common.{◌≡◌, ◌++◌, drop, map}
use Rattle.std.specs.List.{flat_map}
use Rattle.sf_core.specs.Program.View.{procedure_of, resource_of}
use Rattle.sf_state.specs.Names.{names_of_resource, parameters}
use Rattle.sf_state.proofs.names.names_of.Given as goal

abbrev pub invariant-loop-resource : goal.invariant-loop-resource
invariant-loop-resource l =
    parameters (procedure_of l.g) ++ flat_map names_of_resource (map resource_of l.resource-items)
    ≡ l.names.items ++ flat_map names_of_resource (map resource_of (drop l.resource-index l.resource-items))
