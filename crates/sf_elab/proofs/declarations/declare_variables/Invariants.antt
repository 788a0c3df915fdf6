use Rattle.std.proofs.Common.{◌≡◌, drop, length, map, ◌++◌}
use Rattle.sf_ast.specs.View.{item_of}
use Rattle.sf_elab.specs.Names.Declarations.{resources_in, shared_table, all_shared_faults}
use Rattle.sf_elab.proofs.declarations.declare_variables.Given as goal

-- those so far and those of what is left are all
abbrev pub invariant-loop-item : goal.invariant-loop-item
invariant-loop-item l = record {
  table : shared_table l.bytes (length l.resources) (resources_in (map item_of (drop l.item-index l.items))) l.all ≡ shared_table l.bytes 0 (resources_in (map item_of l.items)) l.fn.all;
  faults : l.found.items ++ all_shared_faults l.bytes (length l.resources) (length l.declared) (resources_in (map item_of (drop l.item-index l.items))) l.all ≡ l.fn.found.items ++ all_shared_faults l.bytes 0 0 (resources_in (map item_of l.items)) l.fn.all;
}
