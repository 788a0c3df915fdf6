use Rattle.std.proofs.Common.{◌≡◌, ◌↔◌, ◌⊎◌, length, take, Contains}
use Rattle.sf_base.specs.declared.ids.ProcId.{ProcId}
use Rattle.sf_calls.specs.Checked.Visited.{IsCaller}
use Rattle.sf_calls.proofs.callers.add_caller.Given as goal

-- the calls of those so far
abbrev pub invariant-loop-g : goal.invariant-loop-g
invariant-loop-g l = record {
  size : length l.callers.items ≡ length l.initial.callers.items;
  more : (h g : ProcId)
      → IsCaller l.callers.items h g ↔
      (IsCaller l.initial.callers.items h g ⊎ ((h ≡ l.f) × Contains (take l.g-index l.callees) g));
}
