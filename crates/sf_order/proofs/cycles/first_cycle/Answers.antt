use Rattle.std.proofs.Common.{◌<◌, ◌+◌, ◌∷◌, subst, inl, inr, arith}
use Rattle.sf_base.specs.declared.ids.ResId.{ResId}
use Rattle.sf_calls.specs.Checked.Lemmas.Decided.{resource}
use Rattle.sf_order.specs.Cycles.{IsCycle}
use Rattle.sf_order.specs.Nests.{IsPair}
use Rattle.sf_order.proofs.Distances.{cycle-absurd, cycle-first, fewest-none, pairs-within}
use Rattle.sf_order.proofs.Places.{same-or_not}
use Rattle.sf_order.proofs.cycles.first_cycle.Goals as goal

pub returns-then-least-n : goal.returns-then-least-n
returns-then-least-n c =
    cycle-first c.args.n (IsPair c.args.pairs.now) (pairs-within c.args.n c.args.pairs.now c.requires.below)
    (resource c.loop-v.v) c.in_ok-steps.steps c.in_ok-steps.ensures c.fewest-least.result c.fewest-least.ensures
    c.in_ok-items.items.items c.in_ok-items.ensures c.loop-v.invariant

pub loop-v-preserved : goal.loop-v-preserved
loop-v-preserved c = λ y l ys h. elim (same-or_not y (resource c.loop-v.v)) [
  | inl e ↦
      fewest-none c.args.n (IsPair c.args.pairs.now) (pairs-within c.args.n c.args.pairs.now c.requires.below)
      (resource c.loop-v.v) c.in_ok-steps.steps c.in_ok-steps.ensures c.fewest-least.result c.fewest-least.ensures
      c.if-least-n.false ys (subst (λ (t : ResId). IsCycle (IsPair c.args.pairs.now) (t ∷ ys)) e h)
  | inr n ↦ c.loop-v.invariant y (let below : y.0 < c.loop-v.v + 1 = l in omega arith) ys h
]

pub unreachable-requires : goal.unreachable-requires
unreachable-requires c =
    cycle-absurd c.args.n c.args.pairs.now c.requires.below c.requires.there.0 c.requires.there.1
    (λ y l ys h. c.loop-v.invariant y (let below : y.0 < c.args.n = l in omega (arith, c.loop-v-test.false)) ys h)
