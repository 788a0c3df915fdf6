use Rattle.sf_state.proofs.Exists.{start_exists}
use Rattle.sf_state.proofs.laws.start_exists.Goals as goal

pub returns : goal.returns
returns c =
    start_exists c.determined_has_order.ensures c.ordered_is_determined.ensures c.order_keeps_meaning.ensures
    c.footprint_is_decided.ensures
