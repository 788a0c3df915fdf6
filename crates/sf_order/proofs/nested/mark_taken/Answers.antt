use Rattle.std.proofs.Common.{◌≡◌, ◌≤◌, ◌∙◌, [], length, take, ap, sym, arith}
use Rattle.std.proofs.lemmas.List.{take_all, take_more}
use Rattle.std.proofs.lemmas.Option.{get_or_from_slice_get}
use Rattle.sf_calls.specs.Checked.Lemmas.Decided.{resource}
use Rattle.sf_order.specs.Checked.Rows.{taken_by}
use Rattle.sf_order.proofs.Rows.{marks-two}
use Rattle.sf_order.proofs.nested.mark_taken.Goals as goal

pub loop-q-preserved : goal.loop-q-preserved
loop-q-preserved c =
    let same : taken_by c.args.c.now c.args.f ≡ c.as_slice-q-items.result.now =
    get_or_from_slice_get c.args.c.now.takes c.args.f.0 c.takes.result.now [] c.takes.ensures
    ∙ sym c.as_slice-q-items.ensures in
    rw (same, take_more c.as_slice-q-items.result.now c.loop-q.q-index (resource 0) c.loop-q-test.true)
    (marks-two _ _ _ (take c.loop-q.q-index c.as_slice-q-items.result.now) _ (rw same at c.loop-q.invariant)
    c.mark.ensures)

pub returns : goal.returns
returns c =
    let same : taken_by c.args.c.now c.args.f ≡ c.as_slice-q-items.result.now =
    get_or_from_slice_get c.args.c.now.takes c.args.f.0 c.takes.result.now [] c.takes.ensures
    ∙ sym c.as_slice-q-items.ensures in
    let past : length (taken_by c.args.c.now c.args.f) ≤ c.loop-q.q-index =
    omega (arith, c.loop-q-test.false, ap length same) in
    rw (take_all c.loop-q.q-index (taken_by c.args.c.now c.args.f) past) at c.loop-q.invariant
