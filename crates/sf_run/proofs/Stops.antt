-- Why a run stops before its end.
-- Names: `stop-LAW` of what its tasks tell at the table, `unready-LAW` of what they tell before.
use Rattle.std.specs.Prelude.{◌≡◌, ◌≤◌, ℕ, zero, suc, Bool, List, []}
use Rattle.std.proofs.Common.{sym, subst, arith}
use Rattle.sf_base.specs.declared.ids.ProcId.{ProcId}
use Rattle.sf_base.specs.declared.ids.ResId.{ResId}
use Rattle.sf_calls.specs.FirstBreach.{Conditions}
use Rattle.sf_core.specs.Machine.Alone.{waiting}
use Rattle.sf_core.specs.Machine.Config.{Config, Path}
use Rattle.sf_core.specs.Machine.Numbered.{NumberedFrom}
use Rattle.sf_core.specs.Machine.SpentSteps.{SpentSteps}
use Rattle.sf_core.specs.Machine.SpentWaits.{SpentWaits}
use Rattle.sf_core.specs.Machine.Supplies.{has, units}
use Rattle.sf_core.specs.Program.Formed.{IsFormed}
use Rattle.sf_core.specs.Program.Syntax.{Program}
use Rattle.sf_foot.specs.declared.vars.Vars.{Vars}
use Rattle.sf_foot.specs.Starting.{StartsWith}
use Rattle.sf_heap.specs.Cells.{Cells}
use Rattle.sf_region.specs.Checked.Laws.{DrainedTasksHaveSpentSteps}
use Rattle.sf_region.specs.declared.views.Begun.{Begun}
use Rattle.sf_region.specs.Drained.{Drained}
use Rattle.sf_region.specs.Receipt.{Receipt}
use Rattle.sf_region.specs.Waits.{Missed}
use Rattle.sf_spend.specs.Counting.{IsDividedAs}
use Rattle.sf_threads.specs.declared.stop.Stop.{Stop}
use Rattle.sf_threads.specs.declared.stop.Stop.TheVariants.{Steps, Waits, OutOfMemory}
use Rattle.sf_threads.specs.Stopping.{IsReceiptOf, Says}
use Rattle.sf_run.specs.Checked.Closed.{HasPlaces}
use Rattle.sf_run.specs.Checked.Opened.{IsOpened, IsUnready}
use Rattle.sf_run.specs.declared.stop.Budget.{Budget}
use Rattle.sf_run.specs.Running.{ComesTo, IsStop, IsTable, Stops}
use Rattle.sf_run.specs.Sequential.{IsSequentialStart}
use Rattle.sf_run.proofs.Alone.{alone-spent, alone-waits}
use Rattle.sf_run.proofs.Playing.{play-table, receipt-spent}

-- what the receipt says of its table
receipt-missed : (b : Begun) (path : Path) (r : ResId) (waits : ℕ) (m : Receipt)
    → IsReceiptOf b path r waits m → Missed m.begun m.task m.resource m.count
    → Missed b path r waits
receipt-missed b path r waits m of missed =
    subst (λ (z : Begun × (Path × (ResId × ℕ))). Missed z.0 z.1.0 z.1.1.0 z.1.1.1)
    (λ i. (of.begun i, (of.task i, (of.resource i, of.count i)))) missed

module _ (p : Program) (f : ProcId) (is_fresh : Bool) (vars : Vars) (heap : Cells) (base : ℕ)
    (budget : Budget) (b : Begun) (o : IsOpened p f is_fresh vars heap base budget.steps b)
    (tries : 1 ≤ budget.waits) where
  -- a drained task has spent its steps
  stop-steps : DrainedTasksHaveSpentSteps → (path : Path) (used : ℕ) → Drained b path used
      → SpentSteps p o.prepared.start base budget.steps path used
  unfolding DrainedTasksHaveSpentSteps
  stop-steps law path used drained =
      let n = o.prepared.begins.is in
      subst (λ z. SpentSteps z o.prepared.start base budget.steps path used) o.program
      (law b o.prepared.start o.prepared.opened base budget.steps used path o.prepared.supply
      o.prepared.events
      (subst (λ (z : Config). IsDividedAs z.tasks (has (units base budget.steps))) (sym n) tt)
      (subst (λ z. NumberedFrom z o.prepared.start (has (units base budget.steps)) o.prepared.events
      o.prepared.opened o.prepared.supply) (sym o.program) o.prepared.run)
      o.prepared.whole o.prepared.supplied o.prepared.given drained)

  -- a task with that receipt has tried so often in vain
  stop-waits : (path : Path) (r : ResId) (waits : ℕ) → 1 ≤ waits → Missed b path r waits
      → SpentWaits p o.prepared.start base budget.steps path r waits
  stop-waits path r zero some missed = absurd (omega (arith, some))
  stop-waits path r (suc more) some missed =
      receipt-spent p f is_fresh vars heap base budget.steps b o path r more missed

  pub stop-is : DrainedTasksHaveSpentSteps → (stop : Stop) → Says b budget.waits stop → HasPlaces stop
      → IsStop p f is_fresh vars heap base budget stop
  stop-is law (Steps path used) says places =
      (o.prepared.start, o.prepared.begins, stop-steps law path used says)
  stop-is law (Waits path r m) says places = (
    o.prepared.start,
    o.prepared.begins,
    stop-waits path r budget.waits tries (receipt-missed b path r budget.waits m says places),
    subst (IsTable p f is_fresh vars heap base budget.steps) (sym says.begun)
        (play-table p f is_fresh vars heap base budget.steps b o),
    says.task,
    says.resource,
    says.count,
  )
  stop-is law OutOfMemory says places = tt

  -- where there is one task, that is what comes of it
  module _ (parts : List (List ℕ)) (n : IsSequentialStart p f is_fresh)
      (s : StartsWith p f is_fresh vars heap parts) (formed : IsFormed p) (conditions : Conditions p)
    where
      waits-alone : (path : Path) (r : ResId) (waits : ℕ) → 1 ≤ waits → Missed b path r waits
          → (path ≡ [])
          × ComesTo p f is_fresh vars heap base budget.steps (waiting r)
      waits-alone path r zero some missed = absurd (omega (arith, some))
      waits-alone path r (suc more) some missed = alone-waits p f is_fresh vars heap parts base
          budget.steps n s formed conditions b o path r more missed

      pub stop-alone : DrainedTasksHaveSpentSteps → (stop : Stop) → Says b budget.waits stop
          → HasPlaces stop → Stops p f is_fresh vars heap base budget stop
      stop-alone law (Steps path used) says places = alone-spent p f is_fresh vars heap parts base
          budget.steps n s o.prepared.start path used o.prepared.begins
          (stop-steps law path used says)
      stop-alone law (Waits path r m) says places =
          let w = waits-alone path r budget.waits tries
          (receipt-missed b path r budget.waits m says places) in
          (w.0, says.count, w.1)
      stop-alone law OutOfMemory says places = tt

-- so it is of what its tasks tell before there is a table
pub unready-alone : (p : Program) (f : ProcId) (is_fresh : Bool) (vars : Vars) (heap : Cells)
    (parts : List (List ℕ)) (base : ℕ) (budget : Budget) → IsSequentialStart p f is_fresh
    → StartsWith p f is_fresh vars heap parts → (stop : Stop)
    → IsUnready p f is_fresh vars heap base budget.steps stop
    → Stops p f is_fresh vars heap base budget stop
unready-alone p f is_fresh vars heap parts base budget n s (Steps path used) (start, begins, k) =
    alone-spent p f is_fresh vars heap parts base budget.steps n s start path used begins k
unready-alone p f is_fresh vars heap parts base budget n s (Waits path r m) k = absurd k
unready-alone p f is_fresh vars heap parts base budget n s OutOfMemory k = tt
