use Rattle.std.proofs.Common.{subst, Contains, List}
use Rattle.sf_base.specs.declared.ids.ProcId.{ProcId}
use Rattle.sf_calls.proofs.CallGraph.{caller_pushed, caller_there}
use Rattle.sf_calls.proofs.callers.add_one_caller.Goals as goal

pub returns-then-ends_in-clause-more : goal.returns-then-ends_in-clause-more
returns-then-ends_in-clause-more c =
    caller_there c.args.callers.now.items c.args.f c.args.g c.index.result.now c.requires c.index.ensures
    (subst (λ (xs : List ProcId). Contains xs c.args.f) c.deref.ensures.value
    (c.ends_in.ensures c.if-ends_in.true))

pub returns-clause-more : goal.returns-clause-more
returns-clause-more c =
    caller_pushed c.args.callers.now.items c.args.f c.args.g c.index_mut-row.result.now c.push.new.self
    c.requires c.index_mut-row.ensures.value c.in_ok-push.ensures.items
