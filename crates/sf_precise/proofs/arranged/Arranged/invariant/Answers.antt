use Rattle.sf_core.specs.Program.View.{assertion_of}
use Rattle.sf_core.specs.Program.ProgramView.{program_of}
use Rattle.sf_precise.specs.Annotations.{annotations_in}
use Rattle.sf_precise.proofs.Starts.{invariant-at, order-there}
use Rattle.sf_precise.proofs.arranged.Arranged.invariant.Goals as goal

pub returns : goal.returns
returns c =
    let s = c.args.self.now in
    order-there (λ o. assertion_of o.assertion) (annotations_in (program_of s.program)) s.orders.items
    (program_of s.program).resources c.args.r.0 c.args.r.0 (λ h. h.invariant)
    (c.orders_from_truncation.ensures _ _ s.ordered)
    (invariant-at (program_of s.program) c.args.r.0) c.index.result.now c.index.ensures
