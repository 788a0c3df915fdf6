use Rattle.sf_calls.specs.Checked.Lemmas.Gathered.{visited_once, queued_once}
use Rattle.sf_calls.proofs.leading.distinct.Goals as goal

pub returns-clause-members : goal.returns-clause-members
returns-clause-members c =
    visited_once c.args.fs.now c.in_ok-visited.visited.items c.new-found.result.items c.args.count _ _
    c.in_ok-visited.ensures c.new-found.ensures.items c.in_ok-visit_all.ensures

pub returns-clause-once : goal.returns-clause-once
returns-clause-once c =
    queued_once c.args.fs.now c.in_ok-visited.visited.items c.new-found.result.items _ _
    c.new-found.ensures.items c.in_ok-visit_all.ensures
