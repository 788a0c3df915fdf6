use Rattle.sf_core.specs.Program.View.{assertion_of}
use Rattle.sf_precise.proofs.Exactly.{only-ordered, only-undetermined}
use Rattle.sf_precise.proofs.ordering.order.Goals as goal

pub returns-clause-only_ordered : goal.returns-clause-only_ordered
returns-clause-only_ordered c =
    only-ordered (assertion_of c.args.a.now) (λ x. assertion_of x.assertion) c.find_order.result
    c.find_order.ensures.ordered c.find_order.ensures.undetermined

pub returns-clause-only_undetermined : goal.returns-clause-only_undetermined
returns-clause-only_undetermined c =
    only-undetermined (assertion_of c.args.a.now) c.find_order.result
    c.find_order.ensures.determined c.find_order.ensures.place
