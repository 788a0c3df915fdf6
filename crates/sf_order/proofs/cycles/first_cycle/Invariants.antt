use Rattle.std.proofs.Common.{◌<◌, List, ◌∷◌}
use Rattle.sf_base.specs.declared.ids.ResId.{ResId}
use Rattle.sf_order.specs.Cycles.{IsCycle}
use Rattle.sf_order.specs.Nests.{IsPair}
use Rattle.sf_order.proofs.cycles.first_cycle.Given as goal

-- no cycle goes through those so far
abbrev pub invariant-loop-v : goal.invariant-loop-v
invariant-loop-v l = (y : ResId) → y.0 < l.v → (ys : List ResId) → IsCycle (IsPair l.pairs) (y ∷ ys) → ⊥
