use Rattle.std.proofs.Common.{◌≡◌, drop, length, map, ◌++◌}
use Rattle.sf_ast.specs.View.{item_of}
use Rattle.sf_elab.specs.Names.Declarations.{procedures_in, procedure_table, procedure_name_faults}
use Rattle.sf_elab.proofs.declarations.declare_procedures.Given as goal

-- those so far and those of what is left are all
abbrev pub invariant-loop-item : goal.invariant-loop-item
invariant-loop-item l = record {
  table : procedure_table l.bytes (length l.declared) (procedures_in (map item_of (drop l.item-index l.items))) l.procedures ≡ procedure_table l.bytes 0 (procedures_in (map item_of l.items)) l.fn.procedures;
  faults : l.found.items ++ procedure_name_faults l.bytes (length l.declared) (procedures_in (map item_of (drop l.item-index l.items))) l.procedures ≡ l.fn.found.items ++ procedure_name_faults l.bytes 0 (procedures_in (map item_of l.items)) l.fn.procedures;
}
