use Rattle.sf_core.specs.Program.View.{assertion_of}
use Rattle.sf_foot.specs.Variables.{value_of}
use Rattle.sf_state.proofs.NextFound.{found-next}
use Rattle.sf_state.proofs.finding.take_next.Goals as goal

pub returns : goal.returns
returns c = λ before b ord found.
    found-next c.order_keeps_meaning.ensures c.ordered_is_determined.ensures c.determined_has_one_footprint.ensures b
    (assertion_of c.args.a.now.assertion) before (value_of c.args.vars.now) c.args.heap.now c.args.found.now
    c.take.new.self c.take.result ord found (c.take.ensures found.apart)
