use Rattle.std.proofs.Common.{◌≡◌, drop, length, map, ◌++◌}
use Rattle.sf_ast.specs.View.{item_of}
use Rattle.sf_elab.specs.Names.Declarations.{resources_in, resource_table, resource_name_faults}
use Rattle.sf_elab.proofs.declarations.declare_resources.Given as goal

-- those so far and those of what is left are all
abbrev pub invariant-loop-item : goal.invariant-loop-item
invariant-loop-item l = record {
  table : resource_table l.bytes (length l.declared) (resources_in (map item_of (drop l.item-index l.items))) l.resources ≡ resource_table l.bytes 0 (resources_in (map item_of l.items)) l.fn.resources;
  faults : l.found.items ++ resource_name_faults l.bytes (length l.declared) (resources_in (map item_of (drop l.item-index l.items))) l.resources ≡ l.fn.found.items ++ resource_name_faults l.bytes 0 (resources_in (map item_of l.items)) l.fn.resources;
}
