use Rattle.sf_calls.specs.Checked.Lemmas.Searches.{found_one, found_none, found_all}
use Rattle.sf_calls.proofs.leading.visited_procedures.Goals as goal
use Rattle.sf_calls.proofs.leading.visited_procedures.Goals.{then-visit+in_ok-push, else-visit}

pub loop-i-preserved : goal.loop-i-preserved
loop-i-preserved c = elim c.if-visit.branch [
  | then-visit+in_ok-push w ↦
      rw (w.found-is, w.in_ok-push.ensures.items)
      (found_one c.args.visited.now c.loop-i.found.items c.loop-i.i c.loop-i-test.true w.if-visit.true
      c.loop-i.invariant)
  | else-visit w ↦
      rw w.found-is
      (found_none c.args.visited.now c.loop-i.found.items c.loop-i.i c.loop-i-test.true w.if-visit.false
      c.loop-i.invariant)
]

pub returns : goal.returns
returns c =
    found_all c.args.visited.now c.loop-i.found.items c.loop-i.i c.loop-i-test.false c.loop-i.invariant
