-- Ends: with which variables, cells and log a procedure ends, in the part of the entry's task.
-- O'Hearn (2007): what a program has at its end, apart from what its resources own.
use Rattle.std.specs.Prelude.{◌≡◌, ◌+◌, ◌<◌, ℕ, List, [], length, Some, slice_index_or, unwrap_or}
use Rattle.sf_base.specs.declared.ids.ProcId.{ProcId}
use Rattle.sf_base.specs.declared.value.Value.TheVariants.{Nil as nil}
use Rattle.sf_base.specs.HeapStore.{own}
use Rattle.sf_core.specs.Machine.Step.{procedure_at}
use Rattle.sf_core.specs.Program.Syntax.{Procedure, Program}
use Rattle.sf_foot.specs.declared.vars.Vars.{Vars}
use Rattle.sf_foot.specs.Starting.{HasWidth}
use Rattle.sf_heap.specs.Cells.{Cells, heap_of}
use Rattle.sf_part.specs.Timed.{Stamped, TimedPart}

-- Ends: these are the values of the procedure's parameters, which are kept from the first slot of
-- number 0 on, and no others; and the part's cells and log
pub record Ends (p : Program) (f : ProcId) (a : TimedPart) (vars : Vars) (heap : Cells)
    (log : List Stamped) : Type 0 where
  pub procedure : Procedure
  pub there : procedure_at p f ≡ Some procedure
  pub parameters : length vars.own.items ≡ procedure.references + procedure.values
  pub values : (i : ℕ) → i < procedure.references + procedure.values
      → slice_index_or vars.own.items i nil ≡ unwrap_or (a.part.store (own 0 i)) nil
  pub no_more : vars.shared.items ≡ []
  pub cells : heap_of heap ≡ a.part.heap
  -- each cell has a value for each field of the program
  pub width : HasWidth (length p.fields) heap
  pub log_is : log ≡ a.log
