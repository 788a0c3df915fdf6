use Rattle.std.proofs.Common.{Global, Vec, ap, ◌∙◌}
use Rattle.sf_core.specs.Program.View.{assertion_of}
use Rattle.sf_core.specs.declared.ordered.Ordered.{Ordered}
use Rattle.sf_precise.specs.Checked.Lemmas.Annotated.{noted-all, read-fault, read-ordered}
use Rattle.sf_precise.proofs.arranging.order_all.Goals.{in-Ok+in_ok-push-in-Ok, in-Err-Undetermined}
use Rattle.sf_precise.proofs.arranging.order_all.Goals as goal

pub loop-a-preserved : goal.loop-a-preserved
loop-a-preserved c = elim c.match-order.branch [
  | in-Ok+in_ok-push-in-Ok w ↦
      read-ordered (λ a. assertion_of a.now) (λ o. assertion_of o.assertion) c.args.notes.now
      c.loop-a.a-index c.a-item.result c.loop-a-test.true c.a-item.is
      c.loop-a.first c.match-order.first c.loop-a.orders.items w.in-Ok.ordered c.match-order.orders.items
      w.first-is
      (ap (λ (v : Vec Ordered Global). v.items) w.orders-is ∙ w.in_ok-push-in-Ok.ensures)
      w.in-Ok.ensures.determined w.in-Ok.ensures.ordered c.loop-a.invariant
  | in-Err-Undetermined w ↦
      read-fault (λ a. assertion_of a.now) (λ o. assertion_of o.assertion) c.args.notes.now c.loop-a.a-index
      c.a-item.result c.loop-a-test.true c.a-item.is
      c.loop-a.first c.match-order.first c.loop-a.orders.items c.match-order.orders.items
      w.in-Err-Undetermined.place w.earlier.result w.first-is w.earlier.ensures
      (ap (λ (v : Vec Ordered Global). v.items) w.orders-is)
      (rw w.in-Err-Undetermined.field-0-is at w.in-Err-Undetermined.ensures.place) c.loop-a.invariant
]

pub returns-in-Some-clause-undetermined : goal.returns-in-Some-clause-undetermined
returns-in-Some-clause-undetermined c =
    noted-all (λ a. assertion_of a.now) c.args.notes.now c.loop-a.a-index c.loop-a.first _ c.in-Some.place
    c.loop-a-test.false c.loop-a.invariant c.in-Some.is
