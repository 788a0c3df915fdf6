-- The configuration in which a procedure starts, with the variables and cells of a start.
-- O'Hearn (2007); Brookes (2007): the state at the start of a program with resources.
use Rattle.std.specs.Prelude.{◌≡◌, Bool, Some}
use Rattle.sf_base.specs.declared.ids.ProcId.{ProcId}
use Rattle.sf_core.specs.Machine.Config.{Config}
use Rattle.sf_core.specs.Machine.Start.{Beginning, initial_config}
use Rattle.sf_core.specs.Machine.Step.{procedure_at}
use Rattle.sf_core.specs.Program.Syntax.{Procedure, Program}
use Rattle.sf_foot.specs.declared.vars.Vars.{Vars}
use Rattle.sf_foot.specs.Starting.{IsBeginning, store_of}
use Rattle.sf_heap.specs.Cells.{Cells, heap_of}

-- the configuration is the one in which that procedure starts, fresh or not
pub record Begins (p : Program) (f : ProcId) (is_fresh : Bool) (vars : Vars) (heap : Cells) (c : Config) : Type 0 where
  pub procedure : Procedure
  pub there : procedure_at p f ≡ Some procedure
  pub beginning : Beginning
  pub kind : IsBeginning p is_fresh beginning
  pub is : c ≡ initial_config beginning p f procedure (store_of beginning procedure vars) (heap_of heap)
