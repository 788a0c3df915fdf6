use Rattle.std.proofs.lemmas.Result.{err_from_is_err_and}
use Rattle.sf_precise.proofs.arranging.order_annotations.Goals as goal

pub returns-in_err-orders-clause-undetermined : goal.returns-in_err-orders-clause-undetermined
returns-in_err-orders-clause-undetermined c =
    let p = err_from_is_err_and c.from_residual-in_err-orders.result c.from_residual-in_err-orders.ensures.1 in
    rw (p.1, p.2)
    (rw (c.deref.ensures.value, c.in_ok-notes.ensures.assertions) at c.in_err-orders.ensures.undetermined)
