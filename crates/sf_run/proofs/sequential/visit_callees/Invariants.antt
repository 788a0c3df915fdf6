use Rattle.std.proofs.Common.{◌≡◌, drop, length, map, Bool, List}
use Rattle.sf_base.specs.declared.ids.ProcId.{ProcId}
use Rattle.sf_core.specs.Program.Sites.{site_of}
use Rattle.sf_run.specs.Checked.Searches.{VisitsOrForks}
use Rattle.sf_run.proofs.sequential.visit_callees.Given as goal

-- what comes of the sites that are left comes of all
abbrev pub invariant-loop-s : goal.invariant-loop-s
invariant-loop-s l = record {
  size : length l.visited.items ≡ length l.initial.visited.items;
  rest : (forks : Bool) (after : List Bool) (longer : List ProcId)
      → VisitsOrForks forks (drop l.s-index (map site_of l.body)) l.visited.items l.queue.items after longer
      → VisitsOrForks forks (map site_of l.body) l.initial.visited.items l.initial.queue.items after longer;
}
