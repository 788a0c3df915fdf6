use Rattle.std.proofs.Common.{◌≡◌, drop, map, ◌++◌}
use Rattle.sf_ast.specs.View.{item_of}
use Rattle.sf_core.specs.Program.View as core
use Rattle.sf_elab.specs.Bodies.Commands.{all_faults}
use Rattle.sf_elab.specs.Names.Declarations.{procedures_in}
use Rattle.sf_elab.specs.Bodies.Procedures.{procedure_of, procedure_faults}
use Rattle.sf_elab.proofs.procedures.procedures.Given as goal

-- those so far and those of what is left are all
abbrev pub invariant-loop-item : goal.invariant-loop-item
invariant-loop-item l = record {
  same : map core.procedure_of l.done.items ++ map (procedure_of l.bytes l.declared) (procedures_in (map item_of (drop l.item-index l.items))) ≡ map (procedure_of l.bytes l.declared) (procedures_in (map item_of l.items));
  faults : l.found.items ++ all_faults (procedure_faults l.bytes l.declared) (procedures_in (map item_of (drop l.item-index l.items))) ≡ l.fn.found.items ++ all_faults (procedure_faults l.bytes l.declared) (procedures_in (map item_of l.items));
}
