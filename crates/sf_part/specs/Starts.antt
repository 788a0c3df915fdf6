-- Starts: with which part and contents a procedure starts from the variables and cells of a start.
-- O'Hearn (2007): at the start of a program each resource has its own cells apart from those of the
-- program's task.
use Rattle.std.specs.Prelude.{◌≡◌, ℕ, Bool, List, Some}
use Rattle.sf_base.specs.declared.ids.ProcId.{ProcId}
use Rattle.sf_core.specs.Machine.Start.{Beginning}
use Rattle.sf_core.specs.Machine.Step.{procedure_at}
use Rattle.sf_core.specs.Program.Syntax.{Procedure, Program}
use Rattle.sf_foot.specs.declared.vars.Vars.{Vars}
use Rattle.sf_foot.specs.Starting.{IsBeginning, store_of}
use Rattle.sf_heap.specs.Cells.{Cells, heap_of}
use Rattle.sf_part.specs.First.{First}
use Rattle.sf_part.specs.Timed.{TimedPart, TimedContent}

-- Starts: procedure f starts so, fresh or not, with so many units from a base on
pub record Starts (p : Program) (f : ProcId) (is_fresh : Bool) (vars : Vars) (heap : Cells)
    (base count : ℕ) (first : TimedPart) (contents : List TimedContent) : Type 0 where
  pub procedure : Procedure
  pub there : procedure_at p f ≡ Some procedure
  pub beginning : Beginning
  pub kind : IsBeginning p is_fresh beginning
  pub is : First p f procedure beginning (store_of beginning procedure vars) (heap_of heap) base
      count first contents
