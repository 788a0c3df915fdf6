use Rattle.std.proofs.Common.{◌∙◌, get_or, take, ap, sym, inl, inr, arith}
use Rattle.std.proofs.lemmas.List.{take_more}
use Rattle.sf_base.specs.declared.ids.ResId.{ResId}
use Rattle.sf_calls.specs.Checked.Lemmas.Decided.{resource}
use Rattle.sf_order.specs.Rank.{rank_in}
use Rattle.sf_order.proofs.Distances.{Fewer, fewest-more}
use Rattle.sf_order.proofs.Found.{nothing}
use Rattle.sf_order.proofs.steps.fewest.Goals as goal
use Rattle.sf_order.proofs.steps.fewest.Goals.{then-x-v+then-of-least, else-x-v, else-x-v-via-then-x-v+else-of-least, else-x-v-via-else-x-v}

pub loop-x-preserved : goal.loop-x-preserved
loop-x-preserved c =
    let same = sym c.as_slice-x-items.ensures in
    let e = get_or c.as_slice-x-items.result.now c.loop-x.x-index nothing in
    let step : Fewer c.args.v e.0 c.loop-x.least c.if-x-v.least (rank_in c.args.steps.now e.1) =
    elim c.if-x-v.branch [
      | then-x-v+then-of-least w ↦ inl (
        ap resource w.if-x-v.true,
        omega (arith, w.of.ensures, w.if-of-least.true),
        w.least-is ∙ w.of-least.ensures,
      )
      | else-x-v w ↦ inr (
        w.least-is,
        elim w.else-x-v.branch [
          | else-x-v-via-then-x-v+else-of-least w' ↦ λ _. omega (arith, w'.of.ensures, w'.if-of-least.false)
          | else-x-v-via-else-x-v w' ↦ λ i. absurd (w'.if-x-v.false (ap (λ (r : ResId). r.0) i))
        ],
      )
    ] in
    rw (same, take_more c.as_slice-x-items.result.now c.loop-x.x-index nothing c.loop-x-test.true)
    (fewest-more (take c.loop-x.x-index c.as_slice-x-items.result.now) c.args.steps.now c.args.v e.0 e.1 c.args.n
    c.loop-x.least c.if-x-v.least (rw same at c.loop-x.invariant) step)
