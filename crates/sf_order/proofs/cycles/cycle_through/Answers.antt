use Rattle.std.proofs.Common.{◌≡◌, ◌-◌, ℕ, suc, List, subst, arith}
use Rattle.std.proofs.lemmas.List.{append-nil}
use Rattle.sf_base.specs.declared.ids.ResId.{ResId}
use Rattle.sf_order.specs.Nests.{IsPair}
use Rattle.sf_order.specs.Checked.Ways.{IsFirstAt, IsLeastCycle}
use Rattle.sf_order.proofs.Distances.{IsWalk, pairs-within, walk-ends, walk-goes_on}
use Rattle.sf_order.proofs.cycles.cycle_through.Goals as goal

pub loop-left-preserved : goal.loop-left-preserved
loop-left-preserved c =
    let one : c.loop-left.left ≡ suc (c.loop-left.left - 1) = omega (arith, c.loop-left-test.true) in
    rw c.in_ok-push-2.ensures.items
    (walk-goes_on c.args.n (IsPair c.args.pairs.now)
    (pairs-within c.args.n c.args.pairs.now c.requires.below) c.args.v c.args.steps.now c.requires.steps c.args.least
    c.requires.least c.loop-left.at c.first_at-at.result (c.loop-left.left - 1) c.loop-left.found.items
    (subst (λ (k : ℕ). IsWalk (IsPair c.args.pairs.now) c.args.v c.args.n c.args.steps.now c.args.least
    c.loop-left.at k c.loop-left.found.items) one c.loop-left.invariant)
    (subst (λ (k : ℕ). IsFirstAt (IsPair c.args.pairs.now) c.args.steps.now c.loop-left.at k c.first_at-at.result) one
    c.first_at-at.ensures))

pub returns : goal.returns
returns c =
    let none : c.loop-left.left ≡ 0 = omega (arith, c.loop-left-test.false) in
    subst (λ (xs : List ResId). IsLeastCycle (IsPair c.args.pairs.now) c.args.v c.args.least xs)
    (append-nil c.loop-left.found.items)
    (walk-ends c.args.n (IsPair c.args.pairs.now) (pairs-within c.args.n c.args.pairs.now c.requires.below) c.args.v
    c.args.steps.now c.requires.steps c.args.least c.requires.least c.loop-left.at c.loop-left.found.items
    (subst (λ (k : ℕ). IsWalk (IsPair c.args.pairs.now) c.args.v c.args.n c.args.steps.now c.args.least
    c.loop-left.at k c.loop-left.found.items) none c.loop-left.invariant))
