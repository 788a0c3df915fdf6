use Rattle.sf_calls.specs.Checked.Lemmas.Gathered.{gathered_set}
use Rattle.sf_calls.proofs.summary.ordered.Goals as goal

pub returns : goal.returns
returns c =
    rw c.from_ordered.ensures
    (gathered_set c.args.xs.now c.new-found.result.items c.insert_all.new.found.items
    c.new-found.ensures.items c.in_ok-insert_all.ensures)
