use Rattle.std.proofs.Common.{◌≡◌, ◌<◌}
use Rattle.sf_base.specs.declared.ids.ResId.{ResId}
use Rattle.sf_order.specs.Nests.{IsPair}
use Rattle.sf_order.specs.Rank.{rank_in}
use Rattle.sf_order.proofs.steps.first_at.Given as goal

-- none of those so far
abbrev pub invariant-loop-y : goal.invariant-loop-y
invariant-loop-y l = (z : ResId) → z.0 < l.y → IsPair l.pairs l.x z → rank_in l.steps z ≡ l.away → ⊥
