use Rattle.std.proofs.Common.{◌≡◌, drop, length, map, ◌++◌}
use Rattle.sf_ast.specs.View.{item_of}
use Rattle.sf_core.specs.Program.View.{resource_of}
use Rattle.sf_elab.specs.Names.Declarations.{resources_in}
use Rattle.sf_elab.specs.Files.Elaborated.{resources_from, invariants_faults}
use Rattle.sf_elab.proofs.procedures.resources.Given as goal

-- those so far and those of what is left are all
abbrev pub invariant-loop-item : goal.invariant-loop-item
invariant-loop-item l = record {
  same : map resource_of l.done ++ resources_from l.bytes l.declared (length l.done) (resources_in (map item_of (drop l.item-index l.items))) ≡ resources_from l.bytes l.declared 0 (resources_in (map item_of l.items));
  faults : l.found.items ++ invariants_faults l.bytes l.declared (length l.done) (resources_in (map item_of (drop l.item-index l.items))) ≡ l.fn.found.items ++ invariants_faults l.bytes l.declared 0 (resources_in (map item_of l.items));
}
