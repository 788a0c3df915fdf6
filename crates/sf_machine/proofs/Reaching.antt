-- Configurations that are reached: where a run begins, and what an event leads to.
-- Names: `reached_LAW`.
use Rattle.std.specs.Prelude.{◌≡◌, ℕ, Bool, List, [], ◌∷◌, ◌++◌}
use Rattle.std.proofs.Common.{sym, ap₂, ◌∙◌, refl}
use Rattle.sf_base.proofs.Options.{some-once}
use Rattle.sf_base.specs.declared.ids.ProcId.{ProcId}
use Rattle.sf_core.specs.Machine.Config.{Config}
use Rattle.sf_core.specs.Checked.Machine.Laws.{RunsCompose}
use Rattle.sf_core.specs.Machine.Start.{Beginning, initial_config}
use Rattle.sf_core.specs.Machine.Step.{Event, Step, procedure_at}
use Rattle.sf_core.specs.Program.Syntax.{Procedure, Program}
use Rattle.sf_core.proofs.Machine.Laws.{runs_compose}
use Rattle.sf_foot.specs.declared.vars.Vars.{Vars}
use Rattle.sf_foot.specs.Starting.{StartsWith, store_of}
use Rattle.sf_heap.specs.Cells.{Cells, heap_of}
use Rattle.sf_machine.specs.Beginning.{Begins}
use Rattle.sf_machine.specs.Reached.{IsReached, StartsAreReached, StepsAreReached}

-- where a run begins is reached
pub reached_begin : (p : Program) (f : ProcId) (is_fresh : Bool) (vars : Vars) (heap : Cells)
    (parts : List (List ℕ)) (c : Config) (s : StartsWith p f is_fresh vars heap parts)
    → (b : Begins p f is_fresh vars heap c) → b.beginning ≡ s.beginning → IsReached p c
reached_begin p f is_fresh vars heap parts c s b same =
    let procedure : b.procedure ≡ s.procedure = some-once (procedure_at p f) b.procedure s.procedure b.there s.there in
    let starting : s.procedure ≡ s.starts.procedure =
    some-once (procedure_at p f) s.procedure s.starts.procedure s.there s.starts.there in
    record {
      procedure = f;
      store = store_of s.beginning s.procedure vars;
      heap = heap_of heap;
      start = s.config;
      starts = s.starts;
      events = [];
      reached =
          b.is ∙ ap₂ (λ (z : Beginning) (g : Procedure). initial_config z p f g (store_of z g vars) (heap_of heap)) same
          procedure
          ∙ ap₂ (λ (z : Beginning) (g : Procedure). initial_config z p f g (store_of s.beginning s.procedure vars)
          (heap_of heap)) (sym s.begins) starting
          ∙ sym s.starts.is;
    }

-- so is what an event leads to from there
pub reached_step : (p : Program) (ev : Event) (c d : Config) → IsReached p c → Step p ev c d → IsReached p d
unfolding RunsCompose
reached_step p ev c d r s = record {
  procedure = r.procedure;
  store = r.store;
  heap = r.heap;
  start = r.start;
  starts = r.starts;
  events = r.events ++ ev ∷ [];
  reached = (runs_compose p r.events (ev ∷ []) r.start d).1 (c, r.reached, (d, s, refl));
}

-- the same as laws
pub starts_are_reached : StartsAreReached
unfolding StartsAreReached
starts_are_reached = reached_begin

pub steps_are_reached : StepsAreReached
unfolding StepsAreReached
steps_are_reached = reached_step
