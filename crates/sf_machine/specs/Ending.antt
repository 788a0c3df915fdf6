-- What a run of a procedure ends with: the values of its parameters and of the resources'
-- variables, and the cells.
-- O'Hearn (2007); Brookes (2007): the state at the end of a program with resources.
use Rattle.std.specs.Prelude.{◌≡◌, ◌+◌, length, slice_get, Some, unwrap_or}
use Rattle.sf_base.specs.declared.ids.ProcId.{ProcId}
use Rattle.sf_base.specs.declared.ids.ResId.{ResId}
use Rattle.sf_base.specs.declared.ids.Var.{Var}
use Rattle.sf_base.specs.declared.value.Value.TheVariants.{Nil as nil}
use Rattle.sf_core.specs.Machine.Config.{Config}
use Rattle.sf_core.specs.Machine.Start.{entry_slot}
use Rattle.sf_core.specs.Machine.Step.{procedure_at}
use Rattle.sf_core.specs.Program.Formed.{IsParameter}
use Rattle.sf_core.specs.Program.Syntax.{Procedure, Program, Resource}
use Rattle.sf_foot.specs.declared.vars.Vars.{Vars}
use Rattle.sf_foot.specs.Starting.{HasWidth}
use Rattle.sf_foot.specs.Variables.{value_of, values_or_none}
use Rattle.sf_heap.specs.Cells.{Cells, heap_of}

-- these are the values of the procedure's parameters and of the resources' variables, no more, and
-- the cells
pub record Ends (p : Program) (f : ProcId) (c : Config) (vars : Vars) (heap : Cells) : Type 0 where
  pub procedure : Procedure
  pub there : procedure_at p f ≡ Some procedure
  pub parameters : length vars.own.items ≡ procedure.references + procedure.values
  pub resources : length vars.shared.items ≡ length p.resources
  pub variables : (r : ResId) (of : Resource) → slice_get p.resources r.0 ≡ Some of
      → length (values_or_none (slice_get vars.shared.items r.0)) ≡ length of.variables
  pub values : (x : Var) → IsParameter p procedure x
      → value_of vars x ≡ unwrap_or (c.common.store (entry_slot x)) nil
  pub cells : heap_of heap ≡ c.common.heap
  -- each cell has a value for each field of the program
  pub width : HasWidth (length p.fields) heap
