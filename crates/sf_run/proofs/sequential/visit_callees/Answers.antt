use Rattle.std.proofs.Common.{◌∙◌, ◌<◌, true, false, true≢false, sym, subst, arith}
use Rattle.sf_run.proofs.Searching.{sites_all, sites_call, sites_forks, sites_passed}
use Rattle.sf_run.proofs.sequential.visit_callees.Goals as goal

pub returns-then-is_fork : goal.returns-then-is_fork
returns-then-is_fork c = c.loop-s.invariant.rest true c.loop-s.visited.items c.loop-s.queue.items
    (sites_forks c.args.body.now c.loop-s.s-index c.s-item.result c.loop-s-test.true c.s-item.is
    (c.is_fork.ensures.0 c.if-is_fork.true))

pub visit_callee-requires-clause-one : goal.visit_callee-requires-clause-one
visit_callee-requires-clause-one c = λ k. true≢false (sym (c.is_fork.ensures.1 k) ∙ c.if-is_fork.false)

pub visit_callee-requires-clause-within : goal.visit_callee-requires-clause-within
visit_callee-requires-clause-within c = λ g h. subst (λ n. g.0 < n) (sym c.loop-s.invariant.size)
    (c.requires g (sites_call c.args.body.now c.loop-s.s-index c.s-item.result g c.loop-s-test.true c.s-item.is h))

pub loop-s-preserved : goal.loop-s-preserved
loop-s-preserved c = record {
  size = c.in_ok-visit_callee.ensures.size ∙ c.loop-s.invariant.size;
  rest = λ forks after longer h. c.loop-s.invariant.rest forks after longer
      (sites_passed c.args.body.now c.loop-s.s-index c.s-item.result c.loop-s-test.true c.s-item.is forks
      c.loop-s.visited.items c.loop-s.queue.items c.visit_callee.new.visited.items c.visit_callee.new.queue.items
      after longer (λ k. true≢false (sym (c.is_fork.ensures.1 k) ∙ c.if-is_fork.false))
      c.in_ok-visit_callee.ensures h);
}

pub returns : goal.returns
returns c = c.loop-s.invariant.rest false c.loop-s.visited.items c.loop-s.queue.items
    (sites_all c.args.body.now c.loop-s.s-index (omega (arith, c.loop-s-test.false)) c.loop-s.visited.items
    c.loop-s.queue.items)
