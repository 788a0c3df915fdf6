use Rattle.std.proofs.Common.{take, refl, ◌∙◌}
use Rattle.std.proofs.lemmas.List.{take_more, take_all}
use Rattle.sf_calls.proofs.CallGraph.{callers_more, callers_first}
use Rattle.sf_calls.specs.Checked.Lemmas.Searches.{proc}
use Rattle.sf_calls.proofs.callers.add_caller.Goals as goal

pub loop-g-init : goal.loop-g-init
loop-g-init c = record { size = refl; more = callers_first c.args.f c.args.callers.now.items }

pub loop-g-preserved : goal.loop-g-preserved
loop-g-preserved c = record {
  size = c.in_ok-add_one_caller.ensures.size ∙ c.loop-g.invariant.size;
  more = rw (take_more c.args.callees.now c.loop-g.g-index (proc 0) c.loop-g-test.true)
      (callers_more c.args.f (take c.loop-g.g-index c.args.callees.now) _ c.args.callers.now.items
      c.loop-g.callers.items c.add_one_caller.new.callers.items c.loop-g.invariant.more
      c.in_ok-add_one_caller.ensures.more);
}

pub returns-clause-more : goal.returns-clause-more
returns-clause-more c =
    rw (take_all c.loop-g.g-index c.args.callees.now c.loop-g-test.false) at c.loop-g.invariant.more
